use Rattle.ent_storage.proofs.Common.{◌≡◌, Some, ap, sym, ◌∙◌, IfSome_then, Store, birth_of}
use Rattle.ent_storage.proofs.OfBirth.{to_map, from_map, least_if, none_if}
use Rattle.ent_storage.proofs.rows.Rows.of_birth.Goals as goal

pub returns-clause-found : goal.returns-clause-found
returns-clause-found c = IfSome_then c.of_birth.result c.of_birth.ensures.listed
    (λ h at. ap (λ (s : Store). birth_of s.entities h) (sym c.self.view_is)
    ∙ to_map c.self.inside.living.entities _ c.self.invariant.indexed c.args.birth h at)

pub returns-clause-least : goal.returns-clause-least
returns-clause-least c =
    least_if _ (λ h. birth_of c.args.self.now.entities h ≡ Some c.args.birth)
    (λ h at. c.of_birth.ensures.before h
    (from_map c.self.inside.living.entities _ c.self.invariant.indexed c.args.birth h
    (ap (λ (s : Store). birth_of s.entities h) c.self.view_is ∙ at)))

pub returns-clause-none : goal.returns-clause-none
returns-clause-none c =
    none_if _ (λ h. birth_of c.args.self.now.entities h ≡ Some c.args.birth)
    (λ h at. c.of_birth.ensures.before h
    (from_map c.self.inside.living.entities _ c.self.invariant.indexed c.args.birth h
    (ap (λ (s : Store). birth_of s.entities h) c.self.view_is ∙ at)))
