-- What contracts see of a phase and of its reservers, for any source.
use Rattle.std.specs.Prelude.{◌≡◌, ℕ, ◌≤◌, List, ◌++◌, length, map, refl}
use Rattle.std.specs.List.{All}
use Rattle.std.specs.Coded.{Coded, code_by, coded×, coded_ℕ, coded_list}

-- the source, and all its reservers
pub record Opening (S R : Type 0) : Type 0 where
  pub source : S
  pub returned : List R

-- the number that distinguishes phases, the source, and the reservers that are returned
pub record Phase (S R : Type 0) : Type 0 where
  pub number : ℕ
  pub source : S
  pub returned : List R

-- the number of its phase, the source that it reserves from, and what it reserves with
pub record Reserver (S R : Type 0) : Type 0 where
  pub number : ℕ
  pub source : S
  pub reserver : R

module _ {S R : Type 0} where
  -- what these reservers reserve with
  abbrev pub reservers_of : List (Reserver S R) → List R
  reservers_of reservers = map (λ (r : Reserver S R). r.reserver) reservers

  -- all of them are of the phase of this number
  abbrev pub AreOf : ℕ → List (Reserver S R) → Type 0
  AreOf number reservers = All (λ (r : Reserver S R). r.number ≡ number) reservers

  -- the reservers returned, and these behind them
  abbrev pub all_returned : Phase S R → List (Reserver S R) → List R
  all_returned p reservers = p.returned ++ reservers_of reservers

  -- They are all of this phase, and with those returned no more than it has.
  abbrev pub MayReturn : ℕ → Phase S R → List (Reserver S R) → Type 0
  MayReturn count p reservers =
      AreOf p.number reservers × (length (all_returned p reservers) ≤ count)

  -- each is stored as the tuple of its parts
  abbrev pub opening_code : Coded S → Coded R → Coded (Opening S R)
  opening_code s r =
      code_by (S × List R) (coded× s (coded_list r)) (λ o. (o.source, o.returned))
      (λ t. record { source = t.0; returned = t.1 }) (λ _. refl)

  abbrev pub phase_code : Coded S → Coded R → Coded (Phase S R)
  phase_code s r =
      code_by (ℕ × (S × List R)) (coded× coded_ℕ (coded× s (coded_list r)))
      (λ p. (p.number, (p.source, p.returned)))
      (λ t. record { number = t.0; source = t.1.0; returned = t.1.1 }) (λ _. refl)

  abbrev pub reserver_code : Coded S → Coded R → Coded (Reserver S R)
  reserver_code s r =
      code_by (ℕ × (S × R)) (coded× coded_ℕ (coded× s r))
      (λ p. (p.number, (p.source, p.reserver)))
      (λ t. record { number = t.0; source = t.1.0; reserver = t.1.1 }) (λ _. refl)
