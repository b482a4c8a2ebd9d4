-- The tests of a crossing step, by the judge and by what it reads besides.
-- Assumes nothing.
use Rattle.std.specs.Prelude.{Bool, true, not, cond, ◌&&◌, ◌||◌, List, ℕ, ◌*◌, eqb, leb, get_or}
use Rattle.lists.specs.Lists.{consecutive, all_of}
use Rattle.union_find.specs.Links.{sound_below}
use Rattle.cutting.specs.Cutting.{blocks}
use Rattle.joiner.specs.Job.{Face, Curve}
use Rattle.joiner.specs.Job as joiner
use Rattle.joiner.specs.Stages.{crossing_step}
use Rattle.stages.specs.Ticks.{ticked_in}
use Rattle.judge.specs.declared.CallName.{CallName}
use Rattle.judge.specs.declared.Lengths.{Lengths}
use Rattle.judge.specs.declared.Entry.{Entry}
use Rattle.judge.specs.Judge.{first_refusal, judged_of, entry_of, links_stand_in}

-- Block x is crossed, or is b.
unfoldable pub crossed_but : List ℕ → ℕ → ℕ → Bool
crossed_but ticks b x = eqb (crossing_step b) (crossing_step x) || ticked_in ticks (crossing_step x)

-- With block b all of so many are crossed: the joiner's `last_crossing`.
unfoldable pub last_in : List ℕ → ℕ → ℕ → Bool
last_in ticks b count = all_of (crossed_but ticks b) (consecutive 0 count)

-- The first n entries of the rows are places of a table of so many faces, + 1: the joiner's `rows_stand`.
unfoldable pub rows_in : List ℕ → ℕ → ℕ → Bool
rows_in rows faces n = all_of (λ i. leb (get_or rows i 0) faces) (consecutive 0 n)

-- .. and no link of an enrolled face or curve is longer than its place: the joiner's `all_links_stand`.
unfoldable pub all_ready : List ℕ → ℕ → ℕ → ℕ → List ℕ → List ℕ → Bool
all_ready rows entries faces curves fl cl = rows_in rows entries (4 * curves) && (sound_below fl faces && sound_below cl curves)

-- .. asked at the last crossing only.
unfoldable pub numberable : List ℕ → ℕ → ℕ → List ℕ → ℕ → ℕ → ℕ → List ℕ → List ℕ → Bool
numberable ticks b count rows entries faces curves fl cl = cond (last_in ticks b count) (all_ready rows entries faces curves fl cl) true

-- 8 denies it, after the judge: the block's links may be followed, and with the last block all can be numbered.
unfoldable pub own_stands : List ℕ → ℕ → ℕ → Entry → List ℕ → ℕ → ℕ → ℕ → List ℕ → List ℕ → Bool
own_stands ticks b count d rows entries faces curves fl cl = links_stand_in d fl cl && numberable ticks b count rows entries faces curves fl cl

-- The refusal, 0 for none: the joiner's `refusal`. 9 and 10 cannot stand.
unfoldable pub refusal_of : joiner.Job → List ℕ → Lengths → List ℕ → List ℕ → List ℕ → List ℕ → ℕ → List ℕ → ℕ
refusal_of j ticks z table rows fl cl b m =
    first_refusal (judged_of j ticks table CallName.Crossing z b (crossing_step b) m)
    (cond (not (own_stands ticks b (blocks j.told.cutting) (entry_of table b) rows (j.told.entries Face) (j.sofar Face) (j.sofar Curve) fl cl)) 8 0)
