-- How a closure takes entries in turn, as far as it has come.
use Rattle.std.proofs.Common.{rules, ◌≡◌, ◌∙◌, sym, refl, append-nil, List, [], ◌∷◌, ◌++◌, Result}
use Rattle.std.proofs.Common.{Ok, Err, MutBor, Option, None, Some, IfSome, IfNone}
use Rattle.std.specs.List.{FoldsTo}
use Rattle.std.specs.Option.{option_to_list}
use Rattle.std.specs.Result.{IfErr, OnOk}
use Rattle.std.proofs.lemmas.List.{append_assoc}
use Rattle.std.proofs.lemmas.Fn.{FoldsTo-push}
use Rattle.ent_alloc.specs.Entities.{Entities}
use Rattle.ent_log.specs.declared.entry.Entry.{Entry}
use Rattle.ent_log.specs.HandingOn.{CalledAt, Takes, TakesAll, FailsAt}

-- what a list has that one is taken out of
pub taken_out : {X : Type 0} (old new : List X) (item : Option X) → IfSome item (λ x. old ≡ x ∷ new)
    → IfNone item (old ≡ []) → IfNone item (new ≡ []) → old ≡ option_to_list item ++ new
taken_out old new None first none done = none ∙ sym done
taken_out old new (Some x) first none done = first

-- it has nothing left if there was none
pub none_left : {X : Type 0} (new : List X) (item : Option X) → IfNone item (new ≡ []) → item ≡ None
    → new ≡ []
none_left new None done is = done
none_left new (Some x) done is = search rules

module _ {C E F : Type 0} (step : F → MutBor Entities → Entry C → Result (Unit {0}) (Entry C × E)
    → MutBor Entities → F
    → Type 0) where
  -- f took the entries before those that are left, and left this closure and allocator
  pub record HasTaken (f : F) (before : Entities) (entries : List (Entry C)) (next : F)
      (after : Entities) (left : List (Entry C)) : Type 0 where
    pub taken : List (Entry C)
    pub in_order : entries ≡ taken ++ left
    pub each : FoldsTo (Takes step) (f, before) taken (next, after)

  pub called_at : (f next : F) (shown left : MutBor Entities) (entry : Entry C)
      (returned : Result (Unit {0}) (Entry C × E)) → step f shown entry returned left next
      → CalledAt step f shown.now entry returned left.now next
  called_at f next shown left entry returned called = search rules

  module _ (f : F) (before : Entities) (entries : List (Entry C)) where
    pub took_none : HasTaken f before entries f before entries
    took_none = record { taken = []; in_order = refl; each = refl }

    pub took_one : (now next : F) (here there : Entities) (entry : Entry C) (left : List (Entry C))
        → HasTaken f before entries now here (entry ∷ left)
        → CalledAt step now here entry (Ok tt) there next
        → HasTaken f before entries next there left
    took_one now next here there entry left so called = record {
      taken = so.taken ++ entry ∷ [];
      in_order = so.in_order ∙ sym (append_assoc so.taken (entry ∷ []) left);
      each =
          FoldsTo-push (Takes step) (f, before) so.taken (now, here) entry (next, there) so.each
          called;
    }

    pub took_all : (next : F) (after : Entities) (left : List (Entry C))
        → HasTaken f before entries next after left → left ≡ []
        → TakesAll step f before entries after
    took_all next after left so none = search (rules, so.in_order, so.each, append-nil)

    pub fails_at : (now last : F) (here there : Entities) (entry returned : Entry C) (error : E)
        (left : List (Entry C)) → HasTaken f before entries now here (entry ∷ left)
        → CalledAt step now here entry (Err (returned, error)) there last
        → FailsAt step f before entries error (returned ∷ left) there
    fails_at now last here there entry returned error left so called =
        search (rules, so.in_order, so.each)

    -- a call succeeded, and the next entry is taken out
    pub went_on : (now next : F) (shown left : MutBor Entities) (entry : Entry C)
        (returned : Result (Unit {0}) (Entry C × E)) (u : Unit {0}) (here item : Option (Entry C))
        (rest new : List (Entry C))
        → HasTaken f before entries now shown.now (option_to_list here ++ rest) → here ≡ Some entry
        → step now shown entry returned left next → returned ≡ Ok u
        → IfSome item (λ (x : Entry C). rest ≡ x ∷ new) → IfNone item (rest ≡ [])
        → IfNone item (new ≡ [])
        → HasTaken f before entries next left.now (option_to_list item ++ new)
    went_on now next shown left entry returned u here item rest new so is called ok first none
        done =
        took_one now next shown.now left.now entry (option_to_list item ++ new)
        (rw (is, taken_out rest new item first none done) at so)
        (called_at now next shown left entry (Ok tt) (rw ok at called))

    -- a call failed
    pub went_wrong : (now last : F) (shown left : MutBor Entities) (entry : Entry C)
        (returned : Result (Unit {0}) (Entry C × E)) (failed : Entry C × E)
        (here : Option (Entry C)) (rest : List (Entry C))
        → HasTaken f before entries now shown.now (option_to_list here ++ rest) → here ≡ Some entry
        → step now shown entry returned left last → returned ≡ Err failed
        → FailsAt step f before entries failed.1 (failed.0 ∷ rest) left.now
    went_wrong now last shown left entry returned failed here rest so is called err =
        fails_at now last shown.now
        left.now entry failed.0 failed.1 rest (rw is at so)
        (called_at now last shown left entry (Err failed)
        (rw err at called))

  -- the same of the list that a view has
  pub TakesAll-of_view : (r : Result (Unit {0}) E) (f : F) (before after : Entities)
      (shown all : List (Entry C)) → shown ≡ all → OnOk r (TakesAll step f before shown after)
      → OnOk r (TakesAll step f before all after)
  TakesAll-of_view r f before after shown all view taken = rw view at taken

  pub FailsAt-of_view : (r : Result (Unit {0}) E) (f : F) (before after : Entities)
      (shown all left : List (Entry C)) → shown ≡ all
      → IfErr r (λ (error : E). FailsAt step f before shown error left after)
      → IfErr r (λ (error : E). FailsAt step f before all error left after)
  FailsAt-of_view r f before after shown all left view fails = rw view at fails
