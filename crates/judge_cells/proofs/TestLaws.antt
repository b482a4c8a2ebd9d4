-- That the refusals of the two calls about a list of cells go by the first tests, 4, and then 6 and 8; and what a search through numbers finds.
-- Assumes nothing.
use mathlib.Core.Path.{◌≡◌, refl}
use mathlib.Core.Bool.{Bool, not}
use mathlib.Core.List.{List, [], ◌∷◌}
use Prim.Native.Nat.{ℕ, zero, suc, ◌+◌}
use native.Mathlib.Numerals.{add-one}
use Rattle.std.specs.List.{list_all, list_any, range_with_len}
use Rattle.lists.specs.Lists.{consecutive, all_of, some_of}
use Rattle.refusals.specs.Refusals.{number, table, first, given_by, stands_in}
use Rattle.cells.specs.Extents.{off_size}
use Rattle.cutting.specs.Cutting.{good_cut}
use Rattle.joiner.specs.Job.{Closed, State, same_stage}
use Rattle.judge.specs.Judge.{first_refusal, opened_of}
use Rattle.judge.proofs.JudgeLaws.{first_three}
use Rattle.cell_calls.specs.Calls.{CellCall}
use Rattle.cell_calls.specs.Declines.{cell_declines, cell_refusal}
use Rattle.judge_cells.specs.Tests.{placed_of, late_of}

-- ---- a search through numbers

range_is : (i n : ℕ) → range_with_len i n ≡ consecutive i n
unfolding consecutive
range_is i zero = refl
range_is i (suc n) = rw (range_is (i + 1) n, add-one i)

all_is : (f : ℕ → Bool) (l : List ℕ) → list_all f l ≡ all_of f l
all_is f [] = refl
all_is f (x ∷ xs) = rw (all_is f xs)

any_is : (f : ℕ → Bool) (l : List ℕ) → list_any f l ≡ some_of f l
any_is f [] = refl
any_is f (x ∷ xs) = rw (any_is f xs)

pub all_range : (f : ℕ → Bool) (i n : ℕ) → list_all f (range_with_len i n) ≡ all_of f (consecutive i n)
all_range f i n = rw (range_is i n, all_is f)

pub any_range : (f : ℕ → Bool) (i n : ℕ) → list_any f (range_with_len i n) ≡ some_of f (consecutive i n)
any_range f i n = rw (range_is i n, any_is f)

-- ---- the refusals

module _ (s : State) (c : CellCall) where
  pub refusal_placed : cell_refusal s c ≡ first_refusal (opened_of s.job Closed) (placed_of s c)
  unfolding cell_refusal cell_declines given_by first table number stands_in opened_of placed_of late_of
  refusal_placed = first_three (off_size 1024 s.job.told.cutting.extents) (not (good_cut s.job.told.cutting)) (not (same_stage s.job.stage Closed)) (placed_of s c)
