-- The tables of one kind with its components numbered: the joiner's `NumberedKind`, over plain lists.
-- Assumes nothing.
use Rattle.std.specs.Prelude.{◌≡◌, List, ℕ, suc, ◌*◌, ◌/◌, ◌%◌, get_or, length, take}
use Rattle.lists.specs.Lists.{tabulate, overlay}
use Rattle.union_find.specs.Links.{root}
use Rattle.joiner.specs.Job.{Kind, Curve, Face, width, Tables, first_at}
use Rattle.joiner.specs.Outcomes.{class_of, heads, rank, head_of, row_at, row_final}
use Rattle.ranking.specs.Ranking.{AnyKind}

-- The n components numbered 1 to `total`. What the closed tables hold behind the last one is free.
pub record Numbered (t : Tables) (κ : Kind) (n total : ℕ) (numbers numbers' firsts firsts' listed listed' : List ℕ) : Type 0 where
  pub total_is : total ≡ length (heads t κ n)
  pub ranks : numbers' ≡ overlay numbers 0 (rank t κ n) n
  pub firsts_are : take total firsts' ≡ tabulate total (λ i. first_at t κ (head_of t κ n (suc i)))
  pub listed_are : take (width κ * total) listed' ≡ tabulate (width κ * total) (λ i. get_or (row_final t κ (head_of t κ n (suc (i / width κ)))) (i % width κ) 0)
  pub firsts_long : length firsts' ≡ length firsts
  pub listed_long : length listed' ≡ length listed

-- What holds of each kind of all tables with these links, keys and rows of w places, whose closed rows are the rows themselves.
abbrev pub AnyCopied : List ℕ → List ℕ → List ℕ → ℕ → (Tables → Kind → Type 0) → Type 0
AnyCopied links keys rows w P = AnyKind links keys (λ t κ. t.rows κ ≡ rows → width κ ≡ w → ((x : ℕ) → row_final t κ x ≡ row_at t κ x) → P t κ)

-- What holds of all tables with these links, keys and rows of curves, and these numbers of faces.
abbrev pub AnyCurves : List ℕ → List ℕ → List ℕ → List ℕ → (Tables → Type 0) → Type 0
AnyCurves links keys rows faces P =
    (t : Tables) → t.keys Curve ≡ keys → ((x : ℕ) → class_of t Curve x ≡ root links x) → t.rows Curve ≡ rows → t.numbers Face ≡ faces → P t
