-- Numbers, first positions and rows written from the front of their tables.
-- Assumes nothing.
use mathlib.Core.Path.{◌∙◌, ◌≡◌, ap}
use Prim.Native.Nat.{ℕ, suc, ◌*◌, ◌/◌, ◌%◌, ◌≤◌}
use native.Mathlib.Omega.{arith}
use lib.ListN.{get_or, length, take}
use Rattle.lists.specs.Lists.{overlay}
use Rattle.joiner.specs.Job.{Kind, Face, Curve, Point, State, first_at, width}
use Rattle.joiner.specs.Outcomes.{NumberedKind, head_of, heads, rank, row_final}
use Rattle.lists.proofs.Overlay.{length-overlay, overlay_front}
use Rattle.joiner.proofs.LaterKeeps.{heads_most}

-- The tables of one kind, written as `NumberedKind` says.
pub numbered_by : (s t : State) (κ : Kind) (n : ℕ) → t.job.numbered κ ≡ length (heads t.tables κ n)
    → t.tables.numbers κ ≡ overlay (s.tables.numbers κ) 0 (rank t.tables κ n) n
    → t.tables.firsts κ ≡ overlay (s.tables.firsts κ) 0 (λ i. first_at t.tables κ (head_of t.tables κ n (suc i))) (t.job.numbered κ)
    → t.tables.listed κ
    ≡ overlay (s.tables.listed κ) 0 (λ i. get_or (row_final t.tables κ (head_of t.tables κ n (suc (i / width κ)))) (i % width κ) 0) (width κ * t.job.numbered κ)
    → n ≤ length (s.tables.firsts κ) → width κ * n ≤ length (s.tables.listed κ) → NumberedKind s t κ n
numbered_by s t κ n total numbers firsts listed fit rows_fit =
    let few : t.job.numbered κ ≤ n = omega (arith, total, heads_most t.tables κ n) in
    record {
      total = total;
      numbers = numbers;
      firsts = ap (take (t.job.numbered κ)) firsts ∙ overlay_front (s.tables.firsts κ) _ (t.job.numbered κ) (omega arith);
      listed = ap (take (width κ * t.job.numbered κ)) listed ∙ overlay_front (s.tables.listed κ) _ (width κ * t.job.numbered κ) (fewer κ (t.job.numbered κ) few rows_fit);
      firsts_long = ap length firsts ∙ length-overlay (s.tables.firsts κ) 0 _ (t.job.numbered κ);
      listed_long = ap length listed ∙ length-overlay (s.tables.listed κ) 0 _ (width κ * t.job.numbered κ);
    }
  where
    fewer : (κ : Kind) {l : ℕ} (m : ℕ) → m ≤ n → width κ * n ≤ l → width κ * m ≤ l
    fewer Face m h g = omega arith
    fewer Curve m h g = omega arith
    fewer Point m h g = omega arith
