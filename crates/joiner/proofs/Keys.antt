-- Keys: a position and a block come back out of their key, and keys are in the order of (position, block).
-- Assumes nothing.
use mathlib.Core.Logic.{◌⊎◌, inl, inr}
use mathlib.Core.Path.{◌≡◌}
use Prim.Native.Nat.{◌%◌, ◌<◌, ◌≤◌, ℕ}
use native.Mathlib.Omega.{arith}
use lib.Dec.{ltb}
use borrow.Author.Tests.{ltb-false, ltb-true}
use Rattle.joiner.specs.Job.{key_base, key_of, key_position}
use Rattle.lists.proofs.Cases.{by_test}

pub key_first : (p b : ℕ) → b < key_base → key_position (key_of p b) ≡ p
unfolding key_of
key_first p b h = omega arith

pub key_block : (p b : ℕ) → b < key_base → key_of p b % key_base ≡ b
unfolding key_of
key_block p b h = omega arith

-- in the order of keys is in the order of positions
pub positions_le : (x y : ℕ) → x ≤ y → key_position x ≤ key_position y
positions_le x y h = omega arith

pub positions_less : (x y : ℕ) → key_position x < key_position y → x < y
positions_less x y h = omega arith

-- equal positions go by block
pub key_order : (p q b c : ℕ) → b < key_base → c < key_base → key_of p b < key_of q c → (p < q) ⊎ ((p ≡ q) × (b < c))
unfolding key_of
key_order p q b c hb hc h =
    by_test (ltb p q) (λ t. inl (ltb-true p q t)) (λ t. let l : q ≤ p = ltb-false p q t in let e : p ≡ q = omega arith in inr (e, omega arith))
