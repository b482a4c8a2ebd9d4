-- What the contracts of the reader's inner functions cite.
-- Assumes nothing.
use Rattle.std.specs.Prelude.{cond, List, ◌≡◌, ℕ, ◌+◌, ◌*◌, ◌/◌, ◌%◌, ◌≤◌, eqb, length, take}
use Rattle.lists.specs.Lists.{tabulate}
use Rattle.records.specs.Fields.{field_at}
use Rattle.records.specs.Record.{bitmap_length, bits_before, number_of}

-- The bit map of n cells is there, and n is at most the 127 × 127 × 127 of the largest block.
pub record Mapped (r : List ℕ) (n : ℕ) : Type 0 where
  pub few : n ≤ 2048383
  pub bits : 12 + bitmap_length n ≤ length r

-- How many bits of a byte stand.
unfoldable pub bit_count : ℕ → ℕ
bit_count b = b % 2 + b / 2 % 2 + b / 4 % 2 + b / 8 % 2 + b / 16 % 2 + b / 32 % 2 + b / 64 % 2 + b / 128 % 2

-- The number of a cell whose bit is b: listed at a place, or 0.
unfoldable pub number_at : List ℕ → ℕ → ℕ → ℕ
number_at r b p = cond (eqb b 1) (field_at r p 4) 0

-- The first c of n cells are read into m, and the next listed number stands at place p.
pub record ReadTo (r : List ℕ) (n c p : ℕ) (m : List ℕ) : Type 0 where
  pub place : p ≡ 12 + bitmap_length n + 4 * bits_before r c
  pub front : take c m ≡ tabulate c (number_of n r)
