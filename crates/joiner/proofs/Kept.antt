-- Tables that a call leaves as they are: all but the ticks; one equation for all that are kept of a kind.
-- Assumes nothing.
use mathlib.Core.Path.{◌≡◌}
use mathlib.Core.List.{List, [], ◌∷◌, head-eq_of_cons-eq, tail-eq_of_cons-eq}
use Prim.Native.Nat.{ℕ}
use Rattle.joiner.specs.Job.{Kind, Tables, State}
use Rattle.joiner.specs.Outcomes.{KeptFound, KeptNumbers}

-- The tables with other ticks.
abbrev pub with_ticks : Tables → List ℕ → Tables
with_ticks t ticks =
    record {
      ticks = ticks;
      blocks = t.blocks;
      links = t.links;
      keys = t.keys;
      rows = t.rows;
      numbers = t.numbers;
      firsts = t.firsts;
      listed = t.listed;
    }

-- What is found of a kind, and what is numbered.
abbrev pub found_tables : Tables → Kind → List (List ℕ)
found_tables t κ = t.keys κ ∷ t.rows κ ∷ []

abbrev pub number_tables : Tables → Kind → List (List ℕ)
number_tables t κ = t.numbers κ ∷ t.firsts κ ∷ t.listed κ ∷ []

pub found_kept : {s t : State} {κ : Kind} → found_tables t.tables κ ≡ found_tables s.tables κ → KeptFound s t κ
found_kept e = record { keys = head-eq_of_cons-eq e; rows = head-eq_of_cons-eq (tail-eq_of_cons-eq e) }

pub numbers_kept_lem : {s t : State} {κ : Kind} → t.job.numbered κ ≡ s.job.numbered κ → number_tables t.tables κ ≡ number_tables s.tables κ → KeptNumbers s t κ
numbers_kept_lem n e =
    let rest = tail-eq_of_cons-eq e in
    record { numbered = n; numbers = head-eq_of_cons-eq e; firsts = head-eq_of_cons-eq rest; listed = head-eq_of_cons-eq (tail-eq_of_cons-eq rest) }
