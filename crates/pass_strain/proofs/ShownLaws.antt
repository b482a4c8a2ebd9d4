-- The list of a line's cells that show a number, as it grows.
-- Assumes nothing.
use mathlib.Core.Path.{◌≡◌, refl, sym, ap, subst}
use mathlib.Core.Bool.{not}
use mathlib.Core.List.{List}
use Prim.Native.Nat.{ℕ, zero, suc, ◌+◌, ◌*◌, ◌%◌, ◌≤◌, ◌<◌}
use native.Mathlib.Omega.{arith}
use lib.Dec.{eqb, ltb}
use lib.ListN.{get_or, length, set, take}
use Rattle.std.proofs.lemmas.List.{get_or-take}
use lib.Ieee.{Float}
use lib.Seq.{get_or-set_same, get_or-set_other}
use borrow.Author.Tests.{eqb-true, ltb-true, ltb-false}
use Rattle.lists.proofs.Cases.{by_test}
use Rattle.cells.specs.declared.Triple.{Triple}
use Rattle.lines.specs.Lines.{LineAt}
use Rattle.lines.specs.declared.Line.{Line}
use Rattle.pass_survey.specs.Survey.{on_line}
use Rattle.totals.specs.Totals.{sums_with, counts_with}
use Rattle.strain_calls.specs.Adding.{gathered}
use Rattle.pass_strain.specs.BlockReadings.{Brought, brought, cell_taken, Skips, next_at, Listed}
use Rattle.pass_strain.proofs.SumLaws.{skips_none, skips_more, Going, going_start, going_skip, going_more, going_end}

-- The list after the cells before `at`: what is listed, and what is passed over since the last of them.
pub record Growing (m : List ℕ) (base w start : ℕ) (list : List ℕ) (k at : ℕ) : Type 0 where
  pub few : k ≤ 64
  pub sparse : 2 * k ≤ at
  pub each : (j : ℕ) → j < k → (get_or list j 0 < w) × Skips m base w (next_at start list j) (get_or list j 0)
  pub rest : Skips m base w (next_at start list k) at

pub grow_start : (m : List ℕ) (base w start : ℕ) (list : List ℕ) → Growing m base w start list 0 start
unfolding next_at
grow_start m base w start list =
    record {
      few = omega arith;
      sparse = omega arith;
      each = λ j h. absurd (omega (arith, h));
      rest = skips_none m base w start;
    }

module _ (m : List ℕ) (base w start : ℕ) (list : List ℕ) (k at : ℕ) (G : Growing m base w start list k at) (h : at < w) (hw : w < 128) (room : 64 ≤ length list) where
  -- the list with the cell written down
  abbrev next : List ℕ
  next = set list k at

  old : (j : ℕ) → j < k → get_or next j 0 ≡ get_or list j 0
  old j l = get_or-set_other list k j at 0 (λ e. absurd (omega (arith, e, l)))

  new : get_or next k 0 ≡ at
  new = get_or-set_same list k at 0 (omega (arith, G.sparse))

  old_next : (j : ℕ) → j ≤ k → next_at start next j ≡ next_at start list j
  unfolding next_at
  old_next zero l = refl
  old_next (suc j) l = ap (λ (n : ℕ). n + 2) (old j (omega (arith, l)))

  old_each : (j : ℕ) → j < k → (get_or next j 0 < w) × Skips m base w (next_at start next j) (get_or next j 0)
  old_each j l = rw (old j l, old_next j (omega (arith, l))) (G.each j l)

  pending : Skips m base w (next_at start next k) at
  pending = rw (old_next k (omega arith)) G.rest

  -- the cell shows none
  pub grow_blank : get_or m (base + at) 0 ≡ 0 → Growing m base w start next k (at + 2)
  grow_blank z =
      record {
        few = G.few;
        sparse = omega (arith, G.sparse);
        each = old_each;
        rest = skips_more m base w (next_at start next k) at pending h z;
      }

  -- .. shows one
  pub grow_shown : Growing m base w start next (suc k) (at + 2)
  unfolding next_at
  grow_shown =
      record {
        few = omega (arith, G.sparse);
        sparse = omega (arith, G.sparse);
        each = λ j l.
            by_test (ltb j k) (λ t. old_each j (ltb-true j k t))
            (λ t.
            let e : j ≡ k = omega (arith, l, ltb-false j k t) in
            subst (λ (i : ℕ). (get_or next i 0 < w) × Skips m base w (next_at start next i) (get_or next i 0)) (sym e) (rw new (h, pending)));
        rest = rw new (skips_none m base w (at + 2));
      }

  pub grow : (b many : ℕ) → b ≡ mir.Val.bool_byte (not (eqb (get_or m (base + at) 0) 0)) → many ≡ k + b → Growing m base w start next many (at + 2)
  grow b many e f =
      by_test (eqb (get_or m (base + at) 0) 0)
      (λ t. let z = eqb-true (get_or m (base + at) 0) 0 t in let o : b ≡ 0 = rw t at e in subst (λ (i : ℕ). Growing m base w start next i (at + 2)) (omega (arith, o, f)) (grow_blank z))
      (λ t. let o : b ≡ 1 = rw t at e in subst (λ (i : ℕ). Growing m base w start next i (at + 2)) (omega (arith, o, f)) grow_shown)

pub grow_end : (m : List ℕ) (base w start : ℕ) (list : List ℕ) (k at : ℕ) → Growing m base w start list k at → w ≤ at → Listed m base w start list k
grow_end m base w start list k at G h = record { few = G.few; each = G.each; past = at; rest = G.rest; ended = h }

-- The entries before `many` are the list.
module _ (m : List ℕ) (base w start : ℕ) (list : List ℕ) (many : ℕ) where
  front : (j : ℕ) → j < many → get_or (take many list) j 0 ≡ get_or list j 0
  front j h = get_or-take many list j 0 h

  front_next : (j : ℕ) → j ≤ many → next_at start (take many list) j ≡ next_at start list j
  unfolding next_at
  front_next zero h = refl
  front_next (suc j) h = ap (λ (n : ℕ). n + 2) (front j (omega (arith, h)))

  pub listed_front : Listed m base w start list many → Listed m base w start (take many list) many
  listed_front K =
      record {
        few = K.few;
        each = λ j h. rw (front j h, front_next j (omega (arith, h))) (K.each j h);
        past = K.past;
        rest = rw (front_next many (omega arith)) K.rest;
        ended = K.ended;
      }

-- ---- the listed cells of line l, taken in one after the other

-- The tables after i of the listed cells.
pub record Taking (e s : Triple) (g : Brought) (l : ℕ) (line : Line) (list : List ℕ) (sums₀ : List Float) (counts₀ : List ℕ) (i : ℕ) (sums : List Float) (counts : List ℕ) : Type 0 where
  pub late : line.start ≤ next_at line.start list i
  pub alike : next_at line.start list i % 2 ≡ line.start % 2
  pub going : Going e s g l line sums₀ counts₀ (next_at line.start list i) sums counts

pub take_none : (e s : Triple) (g : Brought) (l : ℕ) (line : Line) → LineAt e 1 l line → (list : List ℕ) (sums : List Float) (counts : List ℕ) → Taking e s g l line list sums counts 0 sums counts
unfolding next_at
take_none e s g l line L list sums counts = record { late = omega arith; alike = refl; going = going_start e s g l line L sums counts }

module _ (e s : Triple) (m numbers : List ℕ) (from : ℕ) (values : List Float) (kinds : List ℕ) (l : ℕ) (r : Line) (L : LineAt e 1 l r) (list : List ℕ) (many : ℕ)
    (K : Listed m r.base r.width r.start list many) (sums₀ : List Float) (counts₀ : List ℕ) (i : ℕ) (sums : List Float) (counts : List ℕ)
    (T : Taking e s (brought m numbers from values kinds) l r list sums₀ counts₀ i sums counts) where
  -- the next of them is a face cell of the line
  pub listed_cell : i < many → (get_or list i 0 < r.width) × (r.start ≤ get_or list i 0) × (get_or list i 0 % 2 ≡ r.start % 2)
  listed_cell h = ((K.each i h).0, omega (arith, T.late, (K.each i h).1.is), omega (arith, T.alike, (K.each i h).1.is))

  pub take_next : i < many → (sums' : List Float) (counts' : List ℕ)
      → sums' ≡ sums_with sums (cell_taken e s (brought m numbers from values kinds) (r.base + get_or list i 0))
      → counts' ≡ counts_with counts (cell_taken e s (brought m numbers from values kinds) (r.base + get_or list i 0))
      → Taking e s (brought m numbers from values kinds) l r list sums₀ counts₀ (i + 1) sums' counts'
  unfolding next_at
  take_next h sums' counts' a b =
      let here = going_skip e s m numbers from values kinds l r L sums₀ counts₀ sums counts (next_at r.start list i) (get_or list i 0) T.late T.alike (K.each i h).1 T.going in
      let x-in = listed_cell h in
      let q : suc i ≡ i + 1 = omega arith in
      subst (λ (j : ℕ). Taking e s (brought m numbers from values kinds) l r list sums₀ counts₀ j sums' counts') q
      record {
        late = omega (arith, x-in.1);
        alike = omega (arith, x-in.2);
        going = going_more e s (brought m numbers from values kinds) l r L sums₀ counts₀ (get_or list i 0) sums counts here sums' counts' x-in.0 x-in.1 x-in.2 a b;
      }

  pub taken_all : many ≤ i → i ≤ many
      → (sums ≡ sums_with sums₀ (gathered (cell_taken e s (brought m numbers from values kinds)) (on_line e 2 l)))
      × (counts ≡ counts_with counts₀ (gathered (cell_taken e s (brought m numbers from values kinds)) (on_line e 2 l)))
  taken_all a b =
      let q : many ≡ i = omega (arith, a, b) in
      let rest : Skips m r.base r.width (next_at r.start list i) K.past = subst (λ (j : ℕ). Skips m r.base r.width (next_at r.start list j) K.past) q K.rest in
      going_end e s (brought m numbers from values kinds) l r L sums₀ counts₀ K.past sums counts
      (going_skip e s m numbers from values kinds l r L sums₀ counts₀ sums counts (next_at r.start list i) K.past T.late T.alike rest T.going) K.ended
