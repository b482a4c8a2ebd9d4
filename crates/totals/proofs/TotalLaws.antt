-- The laws of the totals' leaves, one for each way through their code.
-- Assumes nothing.
use mathlib.Core.Path.{◌≡◌, refl, sym, ap, ◌∙◌}
use mathlib.Core.Bool.{Bool, true, false, ◌&&◌}
use mathlib.Core.Logic.{◌≢◌}
use mathlib.Core.List.{List, [], ◌∷◌}
use Prim.Native.Nat.{ℕ, zero, suc, ◌+◌, ◌-◌, ◌*◌, ◌≤◌, ◌<◌}
use native.Mathlib.Omega.{arith}
use lib.Dec.{eqb, leb, lit<}
use lib.IntN.{ℤ, pos, +ℤ_idl}
use lib.ListN.{get_or, set, length}
use lib.Seq.{set-get_or}
use lib.Ieee.{Float, nan, fin, binary64, add}
use borrow.Author.Tests.{eqb-true, eqb-false, eq-eqb, ne_eqb, lt-leb}
use Rattle.lists.specs.Lists.{consecutive, all_of}
use Rattle.std.specs.List.{list_all, range_with_len}
use native.Mathlib.Numerals.{add-one}
use Rattle.lists.proofs.Cases.{by_test, and_first, and_second}
use Rattle.lists.proofs.Lists.{consecutive_in}
use Rattle.lists.proofs.Tests.{all_out}
use Rattle.strains.specs.Units.{is_units, whole_units, float_of, plus_zero}
use Rattle.strains.proofs.Exact.{add_units}
use Rattle.strains.proofs.Signs.{given_signed}
use Rattle.strains.proofs.Sums.{float_none}
use Rattle.strains.specs.Readings.{is_good, sum_with, kind_of}
use Rattle.strains.specs.declared.Reading.{Reading}
use Rattle.totals.specs.Totals.{sum_added, more, count_added, reading_of, reading_at, fits_at, readings_fit, side_at, given_side, totals_of, slot_of, side_stands, stands_at, Holds, both_stand}
use Rattle.totals.specs.declared.Side.{Side}
use Rattle.totals.specs.declared.Totals.{Totals}

-- where there is an entry, what else would be taken does not count
pub any_default : {A : Type 0} (l : List A) (i : ℕ) (c d : A) → i < length l → get_or l i c ≡ get_or l i d
any_default [] i c d h = absurd (omega arith)
any_default (x ∷ l) zero c d h = refl
any_default (x ∷ l) (suc i) c d h = any_default l i c d (omega arith)

-- ---- one reading

-- a reading that is no strain adds nothing
unsummed : (r : Reading) (s : Float) → ((x : Float) → r ≡ Reading.Strain x → ⊥) → sum_with s r ≡ s
unfolding sum_with
unsummed (Reading.Strain x) s h = absurd (h x refl)
unsummed (Reading.Clipped x) s h = refl
unsummed Reading.Missing s h = refl

module _ (sums : List Float) (counts : List ℕ) (s : ℕ) (r : Reading) where
  pub other_sum : ((x : Float) → r ≡ Reading.Strain x → ⊥) → sums ≡ sum_added sums s r
  unfolding sum_added
  other_sum h = sym (ap (set sums s) (unsummed r (get_or sums s plus_zero) h) ∙ set-get_or sums s plus_zero)

  pub kind_counted : (k : ℕ) (after : List ℕ) → k ≡ kind_of r → after ≡ set counts (3 * s + k) (more (get_or counts (3 * s + k) 0)) → after ≡ count_added counts s r
  unfolding count_added
  kind_counted k after e f = rw (← e) f

pub kind_most : (r : Reading) (k : ℕ) → k ≡ kind_of r → k ≤ 2
unfolding kind_of
kind_most (Reading.Strain x) k e = omega arith
kind_most (Reading.Clipped x) k e = omega arith
kind_most Reading.Missing k e = omega arith

-- ---- readings as they come

and_all : (b : Bool) → b ≡ b && true
and_all true = refl
and_all false = refl

last_kind : (k : ℕ) → k ≢ 0 → k ≢ 1 → eqb k 2 ≡ leb k 2 && true
last_kind k z o =
    by_test (eqb k 2) (λ t. let w : k ≡ 2 = eqb-true k 2 t in rw w refl)
    (λ t. let w : k ≢ 2 = eqb-false k 2 t in let g : 2 < k = omega arith in rw (t, lt-leb k 2 g) refl)

module _ (values : List Float) (kinds : List ℕ) (v : ℕ) where
  pub reading_strain : v < length values → get_or kinds v 0 ≡ 0 → Reading.Strain (get_or values v nan) ≡ reading_at values kinds v
  unfolding reading_at reading_of
  reading_strain h e = rw (eq-eqb (get_or kinds v 0) 0 e, any_default values v nan plus_zero h)

  pub reading_clipped : v < length values → get_or kinds v 0 ≢ 0 → get_or kinds v 0 ≡ 1 → Reading.Clipped (get_or values v nan) ≡ reading_at values kinds v
  unfolding reading_at reading_of
  reading_clipped h n e = rw (ne_eqb (get_or kinds v 0) 0 n, eq-eqb (get_or kinds v 0) 1 e, any_default values v nan plus_zero h)

  pub reading_missing : get_or kinds v 0 ≢ 0 → get_or kinds v 0 ≢ 1 → Reading.Missing ≡ reading_at values kinds v
  unfolding reading_at reading_of
  reading_missing n e = rw (ne_eqb (get_or kinds v 0) 0 n, ne_eqb (get_or kinds v 0) 1 e)

  -- a value that is a strain is one of any kind, any other of the last alone
  module _ (t : Bool) (h : v < length values) (e : t ≡ is_units 2097152 (get_or values v nan)) where
    here : is_units 2097152 (get_or values v plus_zero) ≡ t
    here = ap (is_units 2097152) (any_default values v plus_zero nan h) ∙ sym e

    pub strain_fits : t ≡ true → leb (get_or kinds v 0) 2 ≡ fits_at values kinds v
    unfolding fits_at reading_at reading_of is_good
    strain_fits y =
        by_test (eqb (get_or kinds v 0) 0)
        (λ z. rw (z, here, y) (and_all (leb (get_or kinds v 0) 2)))
        (λ z. by_test (eqb (get_or kinds v 0) 1) (λ w. rw (z, w, here, y) (and_all (leb (get_or kinds v 0) 2))) (λ w. rw (z, w) (and_all (leb (get_or kinds v 0) 2))))

    pub other_fits : t ≡ false → eqb (get_or kinds v 0) 2 ≡ fits_at values kinds v
    unfolding fits_at reading_at reading_of is_good
    other_fits y =
        by_test (eqb (get_or kinds v 0) 0)
        (λ z. let k : get_or kinds v 0 ≡ 0 = eqb-true (get_or kinds v 0) 0 z in rw (k, here, y) refl)
        (λ z. by_test (eqb (get_or kinds v 0) 1)
        (λ w. let k : get_or kinds v 0 ≡ 1 = eqb-true (get_or kinds v 0) 1 w in rw (k, here, y) refl)
        (λ w. rw (z, w) (last_kind (get_or kinds v 0) (eqb-false (get_or kinds v 0) 0 z) (eqb-false (get_or kinds v 0) 1 w))))

-- ---- all readings of the lists

all_told : (f : ℕ → Bool) (n i : ℕ) → list_all f (range_with_len i n) ≡ all_of f (consecutive i n)
unfolding consecutive
all_told f zero i = refl
all_told f (suc n) i = ap (λ t. f i && t) (rw add-one (all_told f n (suc i)))

pub fit_told : (values : List Float) (kinds : List ℕ) → list_all (fits_at values kinds) (range_with_len 0 (length values)) ≡ readings_fit values kinds
unfolding readings_fit
fit_told values kinds = all_told (fits_at values kinds) (length values) 0

-- where the test is passed, every reading of the lists is one
pub fit_good : (values : List Float) (kinds : List ℕ) → readings_fit values kinds ≡ true → (v : ℕ) → v < length values → is_good (reading_at values kinds v) ≡ true
unfolding readings_fit fits_at
fit_good values kinds t v h =
    and_second (leb (get_or kinds v 0) 2) (is_good (reading_at values kinds v))
    (all_out (fits_at values kinds) (consecutive 0 (length values)) t (consecutive_in 0 (length values) (omega arith) (omega arith)))

-- ---- totals that are read

-- tables that are long enough for n faces are so for fewer
pub fewer_holds : (sums : List Float) (counts : List ℕ) (m n : ℕ) → m ≤ n → Holds sums counts n → Holds sums counts m
fewer_holds sums counts m n h H = record { sums_long = omega (arith, h, H.sums_long); counts_long = omega (arith, h, H.counts_long) }

pub side_is : (sums : List Float) (counts : List ℕ) (s : ℕ) → s < length sums
    → ◌≡◌ {A = Side} (record { sum = get_or sums s nan; strains = get_or counts (3 * s) 0; clipped = get_or counts (3 * s + 1) 0; missing = get_or counts (3 * s + 2) 0 }) (side_at sums counts s)
unfolding side_at
side_is sums counts s h = rw (any_default sums s nan plus_zero h)

-- a sum added to zero is the float of its whole 1,024ths
pub sum_given : (x : Float) (most : ℕ) → is_units most x ≡ true → add binary64 plus_zero x ≡ float_of (whole_units x)
sum_given x most h = ap (λ (z : Float). add binary64 z x) (sym float_none) ∙ add_units (pos 0) x most (lit< tt) h ∙ ap float_of (+ℤ_idl (whole_units x))

pub side_given : (d : Side) → is_units 9007199254740992 d.sum ≡ true
    → ◌≡◌ {A = Side} (record { sum = add binary64 plus_zero d.sum; strains = d.strains; clipped = d.clipped; missing = d.missing }) (given_side d)
unfolding given_side
side_given d h = ap (λ (x : Float). record { sum = x; strains = d.strains; clipped = d.clipped; missing = d.missing }) (sum_given d.sum 9007199254740992 h)

-- the sums of a face whose both sides stand are whole 1,024ths
module _ (most : ℕ) (sums : List Float) (counts : List ℕ) (n : ℕ) (h : both_stand most sums counts n ≡ true) where
  side_units : (s : ℕ) → stands_at most sums counts s ≡ true → (d : Side) → d ≡ side_at sums counts s → is_units 9007199254740992 d.sum ≡ true
  unfolding stands_at side_stands
  side_units s t d e = ap (λ (x : Side). is_units 9007199254740992 x.sum) e ∙ and_first _ _ t

  pub lower_units : (d : Side) → d ≡ side_at sums counts (2 * (n - 1)) → is_units 9007199254740992 d.sum ≡ true
  unfolding both_stand slot_of
  lower_units d e = side_units (2 * (n - 1) + 0) (and_first (stands_at most sums counts (2 * (n - 1) + 0)) (stands_at most sums counts (2 * (n - 1) + 1)) h) d (e ∙ ap (side_at sums counts) (omega arith))

  pub higher_units : (d : Side) → d ≡ side_at sums counts (2 * (n - 1) + 1) → is_units 9007199254740992 d.sum ≡ true
  unfolding both_stand slot_of
  higher_units d e = side_units (2 * (n - 1) + 1) (and_second (stands_at most sums counts (2 * (n - 1) + 0)) (stands_at most sums counts (2 * (n - 1) + 1)) h) d e

  -- "Minus zero counts as zero": no total that is given is minus zero, whatever the tables hold.
  pub totals_signed : (e : ℤ) → ((totals_of sums counts n).lower.sum ≢ fin true 0 e) × ((totals_of sums counts n).higher.sum ≢ fin true 0 e)
  unfolding totals_of given_side both_stand
  totals_signed e =
      let low = side_units (slot_of n 0) (and_first (stands_at most sums counts (slot_of n 0)) (stands_at most sums counts (slot_of n 1)) h) _ refl in
      let high = side_units (slot_of n 1) (and_second (stands_at most sums counts (slot_of n 0)) (stands_at most sums counts (slot_of n 1)) h) _ refl in
      (given_signed (side_at sums counts (slot_of n 0)).sum low e, given_signed (side_at sums counts (slot_of n 1)).sum high e)

pub totals_are : (sums : List Float) (counts : List ℕ) (n : ℕ) (a b c d : Side) → a ≡ side_at sums counts (2 * (n - 1)) → b ≡ side_at sums counts (2 * (n - 1) + 1)
    → c ≡ given_side a → d ≡ given_side b → ◌≡◌ {A = Totals} (record { lower = c; higher = d }) (totals_of sums counts n)
unfolding totals_of slot_of
totals_are sums counts n a b c d e f g h = let z : 2 * (n - 1) + 0 ≡ 2 * (n - 1) = omega arith in rw (g, h, e, f, z)
