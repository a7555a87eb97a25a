-- The digits at the front of a text, one more at a time: what the loops over them go by.
use Rattle.std.proofs.Common.{ℕ, zero, suc, ◌+◌, ◌*◌, ◌-◌, ◌^◌, ◌≤◌, ◌<◌, Bool, true, false, cond, ◌&&◌, leb, List, [], ◌∷◌, Option, Some, None, length, take, drop, get_or, ◌≡◌, refl, ap, inl, inr, arith}
use Rattle.std.proofs.lemmas.List.Recursion.{same_from_clauses}
use Rattle.std.proofs.lemmas.List.Sums.{prefix_len-le-length}
use Rattle.std.specs.Char.{is_ascii_digit}
use Rattle.std.specs.Int.{IsOutOfRange}
use Rattle.std.specs.List.{prefix_len}
use native.Mathlib.Nat.{pow-suc}
use native.Mathlib.Numerals.{add-one}
use Rattle.std.proofs.Math.Bool.{and-false}
use lib.Seq.{drop-cons}
use borrow.Author.Tests.{le-leb, lt-leb}
use Rattle.grammar.specs.declared.Numeral.{Numeral}
use Rattle.grammar.specs.Grammar.{most_number, is_digit, digit_run, value_from, numeral_of}

-- the digits at the front of a text are as many as ASCII's that stand there
pub run-counted : (bs : List ℕ) → prefix_len is_ascii_digit bs ≡ digit_run bs
unfolding digit_run
run-counted bs =
    same_from_clauses (prefix_len is_ascii_digit) digit_run (λ b n. cond (is_ascii_digit b) (1 + n) 0) refl (λ b rest. refl) (λ b rest. ap (λ n. cond (is_digit b) n 0) (omega arith)) bs

-- the value: one digit further in each turn, and what was read once none is left
pub value_on :
    (bs : List ℕ) (v n i : ℕ)
    → i < n
    → i < length bs
    → value_from v (n - i) (drop i bs) ≡ value_from (v * 10 + (get_or bs i 0 - 48)) (n - (i + 1)) (drop (i + 1) bs)
unfolding value_from
value_on bs v n i k h =
    let e : n - i ≡ suc (n - suc i) = omega arith in
    rw (add-one i, e, drop-cons bs i 0)

pub value-ends : (bs : List ℕ) (v n i : ℕ) → n ≤ i → value_from v (n - i) (drop i bs) ≡ v
unfolding value_from
value-ends bs v n i h =
    let e : n - i ≡ 0 = omega arith in
    rw e

-- the value of the first n bytes is read in them alone
pub value-taken : (v n : ℕ) (bs : List ℕ) → value_from v (length (take n bs)) (take n bs) ≡ value_from v n bs
unfolding value_from
value-taken v zero bs = refl
value-taken v (suc n) [] = refl
value-taken v (suc n) (b ∷ bs) = value-taken (v * 10 + (b - 48)) n bs

-- what i bytes come to is far below 64 bits
abbrev pub Small : ℕ → ℕ → Type 0
Small v i = v + 256 ≤ 256 * 10 ^ i

pub small-on : (v d i : ℕ) → Small v i → d < 256 → Small (v * 10 + d) (i + 1)
small-on v d i s h = rw (add-one i, pow-suc 10 i) (omega arith)

-- a number by its tests
module _ (bs : List ℕ) (n : ℕ) (run : n ≡ digit_run bs) where
  pub not-so_many : IsOutOfRange 1 10 n → None ≡ numeral_of bs
  unfolding numeral_of
  not-so_many (inl few) = simp (← run, lt-leb 1 n few)
  not-so_many (inr many) = simp (← run, le-leb 1 n (omega arith), lt-leb n 10 many)

  pub too_large : (v : ℕ) → v ≡ value_from 0 n bs → most_number < v → None ≡ numeral_of bs
  unfolding numeral_of
  too_large v e h = simp (← run, ← e, lt-leb v most_number h, and-false)

  pub a-number : (v : ℕ) → v ≡ value_from 0 n bs → 1 ≤ n → n ≤ 10 → v ≤ most_number → Some (record { value = v; taken = n }) ≡ numeral_of bs
  unfolding numeral_of
  a-number v e low high h = simp (← run, ← e, le-leb 1 n low, le-leb n 10 high, le-leb v most_number h)

-- a number takes no more bytes than there are
abbrev taken_in : Option Numeral → ℕ
taken_in None = 0
taken_in (Some x) = x.taken

within-by : (t : Bool) (v n m : ℕ) → n ≤ m → taken_in (cond t (Some (record { value = v; taken = n })) None) ≤ m
within-by true v n m h = h
within-by false v n m h = omega arith

pub number-within : (bs : List ℕ) (x : Numeral) → Some x ≡ numeral_of bs → x.taken ≤ length bs
unfolding numeral_of
number-within bs x e =
    let run : digit_run bs ≤ length bs = rw (← run-counted bs) (prefix_len-le-length is_ascii_digit bs) in
    rw (ap taken_in e) (within-by (leb 1 (digit_run bs) && (leb (digit_run bs) 10 && leb (value_from 0 (digit_run bs) bs) most_number)) (value_from 0 (digit_run bs) bs) (digit_run bs) (length bs) run)
