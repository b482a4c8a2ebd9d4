-- The totals of the faces of a closed job, and what a list of readings does to them (document 02, item 1).
-- Assumes nothing.
use Rattle.std.specs.Prelude.{Bool, cond, ◌&&◌, List, [], ◌∷◌, map, ℕ, ◌+◌, ◌-◌, ◌*◌, ◌≤◌, min, eqb, leb, get_or, set, length, Float}
use Rattle.lists.specs.Lists.{consecutive, keep, all_of}
use Rattle.strains.specs.Units.{is_units, whole_units, float_of, plus_zero}
use Rattle.strains.specs.Readings.{is_good, sum_with, kind_of}
use Rattle.strains.specs.declared.Reading.{Reading}
use Rattle.totals.specs.declared.Side.{Side}
use Rattle.totals.specs.declared.Totals.{Totals}

-- ---- the tables: "for each face .. the sum of strains on its lower-code side and on its higher-code side, each with its numbers of strains, clipped and missing"

-- The place of the sum of a side of face n: side 0 is the lower-code one, 1 the higher-code one. The three counts of a sum at place s stand from 3 * s on.
unfoldable pub slot_of : ℕ → ℕ → ℕ
slot_of n side = 2 * (n - 1) + side

-- A reading for the sum at a place.
pub record Taken : Type 0 where
  pub slot : ℕ
  pub reading : Reading

-- A reading for the sum at a place, by both.
abbrev pub taken : ℕ → Reading → Taken
taken s r = record { slot = s; reading = r }

-- A table after a list of readings, each in turn.
unfoldable pub after {ℓ} : {A : Type ℓ} → (A → Taken → A) → A → List Taken → A
after step xs [] = xs
after step xs (t ∷ ts) = after step (step xs t) ts

-- The sums after one more reading for the sum at a place. A place past the end has no sum.
unfoldable pub sum_added : List Float → ℕ → Reading → List Float
sum_added sums s r = set sums s (sum_with (get_or sums s plus_zero) r)

-- The sums after a list of readings.
unfoldable pub sums_with : List Float → List Taken → List Float
sums_with sums ts = after (λ xs t. sum_added xs t.slot t.reading) sums ts

-- One more, as far as 64 bits go.
unfoldable pub more : ℕ → ℕ
more c = min (c + 1) 18446744073709551615

-- The counts after one more reading for the sum at a place.
unfoldable pub count_added : List ℕ → ℕ → Reading → List ℕ
count_added counts s r = set counts (3 * s + kind_of r) (more (get_or counts (3 * s + kind_of r) 0))

-- The counts after a list of readings.
unfoldable pub counts_with : List ℕ → List Taken → List ℕ
counts_with counts ts = after (λ xs t. count_added xs t.slot t.reading) counts ts

-- The readings of a list that go to the sum at a place, in their order.
unfoldable pub readings_for : ℕ → List Taken → List Reading
readings_for s ts = map (λ t. t.reading) (keep (λ t. eqb t.slot s) ts)

-- ---- readings as they come

-- A reading by its kind byte and its value: "0 strain, 1 clipped, 2 missing with its value ignored".
unfoldable pub reading_of : ℕ → Float → Reading
reading_of k x = cond (eqb k 0) (Reading.Strain x) (cond (eqb k 1) (Reading.Clipped x) Reading.Missing)

-- The reading of voxel v in "a list of values and a list of kind bytes".
unfoldable pub reading_at : List Float → List ℕ → ℕ → Reading
reading_at values kinds v = reading_of (get_or kinds v 0) (get_or values v plus_zero)

-- 12 denies it of a voxel: "a kind byte is above 2, or a strain or clipped value is no such multiple, is out of range or is no number".
unfoldable pub fits_at : List Float → List ℕ → ℕ → Bool
fits_at values kinds v = leb (get_or kinds v 0) 2 && is_good (reading_at values kinds v)

-- 12 denies it of a block's lists: every reading is one, also those that no face cell takes.
unfoldable pub readings_fit : List Float → List ℕ → Bool
readings_fit values kinds = all_of (fits_at values kinds) (consecutive 0 (length values))

-- ---- totals that are read

-- The tables are long enough for the totals of n faces.
pub record Holds (sums : List Float) (counts : List ℕ) (n : ℕ) : Type 0 where
  pub sums_long : 2 * n ≤ length sums
  pub counts_long : 6 * n ≤ length counts

-- The sum at a place with its counts.
unfoldable pub side_at : List Float → List ℕ → ℕ → Side
side_at sums counts s = record { sum = get_or sums s plus_zero; strains = get_or counts (3 * s) 0; clipped = get_or counts (3 * s + 1) 0; missing = get_or counts (3 * s + 2) 0 }

-- "Minus zero counts as zero": a sum is given as the float of its whole 1,024ths.
unfoldable pub given_side : Side → Side
given_side d = record { sum = float_of (whole_units d.sum); strains = d.strains; clipped = d.clipped; missing = d.missing }

-- The totals of face n, as they are given.
unfoldable pub totals_of : List Float → List ℕ → ℕ → Totals
totals_of sums counts n = record { lower = given_side (side_at sums counts (slot_of n 0)); higher = given_side (side_at sums counts (slot_of n 1)) }

-- 8 denies it of a side of a "total read with counts above the volume's cells, or a sum beyond 2^43 or no such multiple".
unfoldable pub side_stands : ℕ → Side → Bool
side_stands most d = is_units 9007199254740992 d.sum && (leb d.strains most && (leb d.clipped most && leb d.missing most))

-- It is so of the sum at a place and its counts.
unfoldable pub stands_at : ℕ → List Float → List ℕ → ℕ → Bool
stands_at most sums counts s = side_stands most (side_at sums counts s)

-- It is so of both sides of face n.
unfoldable pub both_stand : ℕ → List Float → List ℕ → ℕ → Bool
both_stand most sums counts n = stands_at most sums counts (slot_of n 0) && stands_at most sums counts (slot_of n 1)
