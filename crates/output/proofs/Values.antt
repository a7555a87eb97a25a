-- The value that a line of a script sends is at most 4,294,967,295, as every number of a script is.
use Prim.Native.Nat.{ℕ, zero, suc, ◌≤◌}
use native.Mathlib.Omega.{arith}
use mathlib.Core.Path.{◌≡◌, refl}
use mathlib.Core.Bool.{Bool, true, false, cond, ◌&&◌}
use mathlib.Core.List.{List, [], ◌∷◌}
use Rattle.std.specs.Prelude.{Option, Some, None}
use lib.ListN.{drop, get_or}
use lib.Dec.{leb, eqb}
use borrow.Author.Tests.{leb-true}
use Rattle.rules.specs.declared.Step.{Step}
use Rattle.rules.specs.declared.Step.TheVariants.{Spawn, Ask, Send, Enrol, Greet, Grant, Leap, Book, Settle, Forward, Hand, Close}
use Rattle.grammar.specs.declared.Line.{Line}
use Rattle.grammar.specs.declared.Line.TheVariants.{Bad, Opening, Take}
use Rattle.grammar.specs.declared.Numeral.{Numeral}
use Rattle.grammar.specs.Grammar.{most_number, digit_run, value_from, numeral_of, and_then, past_comma, at_end, then_numbers, numbers_of, after_word, Kind, kinds, said_by, by_kind, line_among, line_of}

-- the number that was read, and the numbers of a line by their places; 0 where there is none
abbrev read_in : Option Numeral → ℕ
read_in None = 0
read_in (Some x) = x.value

abbrev place_in : Option (List ℕ) → ℕ → ℕ
place_in None i = 0
place_in (Some vs) i = get_or vs i 0

-- a number is read where it passes three tests, and the last is this one
tested : (a b c : Bool) (v n : ℕ) → leb v most_number ≡ c → read_in (cond (a && (b && c)) (Some (record { value = v; taken = n })) None) ≤ most_number
tested true true true v n e = leb-true v most_number e
tested true true false v n e = omega arith
tested true false c v n e = omega arith
tested false b c v n e = omega arith

numeral-within : (bs : List ℕ) → read_in (numeral_of bs) ≤ most_number
unfolding numeral_of
numeral-within bs =
    tested (leb 1 (digit_run bs)) (leb (digit_run bs) 10) (leb (value_from 0 (digit_run bs) bs) most_number) (value_from 0 (digit_run bs) bs) (digit_run bs) refl

-- the numbers of a line, one after the other
abbrev Within : Option (List ℕ) → Type 0
Within x = (i : ℕ) → place_in x i ≤ most_number

one_more : (v : ℕ) (x : Option (List ℕ)) → v ≤ most_number → Within x → Within (and_then v x)
one_more v None h more i = omega arith
one_more v (Some vs) h more zero = h
one_more v (Some vs) h more (suc i) = more i

then-within : (x : Option Numeral) (bs : List ℕ) (next : List ℕ → Option (List ℕ)) → read_in x ≤ most_number → ((rest : List ℕ) → Within (next rest)) → Within (then_numbers x bs next)
then-within None bs next h more i = omega arith
then-within (Some x) bs next h more i = one_more x.value (next (drop x.taken bs)) h (more (drop x.taken bs)) i

end-within : (bs : List ℕ) → Within (at_end bs)
end-within [] i = omega arith
end-within (b ∷ bs) i = omega arith

comma-within : (bs : List ℕ) (next : List ℕ → Option (List ℕ)) → ((rest : List ℕ) → Within (next rest)) → Within (past_comma bs next)
comma-within [] next more i = omega arith
comma-within (b ∷ bs) next more i = by (eqb b 44)
  where
    by : (t : Bool) → place_in (cond t (next bs) None) i ≤ most_number
    by true = more bs i
    by false = omega arith

numbers-within : (n : ℕ) (bs : List ℕ) → Within (numbers_of n bs)
unfolding numbers_of
numbers-within zero bs i = omega arith
numbers-within (suc zero) bs i = then-within (numeral_of bs) bs (λ rest. at_end rest) (numeral-within bs) end-within i
numbers-within (suc (suc n)) bs i =
    then-within
    (numeral_of bs)
    bs
    (λ rest. past_comma rest (λ more. numbers_of (suc n) more))
    (numeral-within bs)
    (λ rest. comma-within rest (λ more. numbers_of (suc n) more) (numbers-within (suc n)))
    i

-- the value that a step sends, and a line; 0 where it sends none
abbrev pub step_value : Step → ℕ
step_value (Spawn a) = 0
step_value (Ask a u) = 0
step_value (Send a n b v) = v
step_value (Enrol b) = 0
step_value (Greet b) = 0
step_value (Grant a) = 0
step_value (Leap a) = 0
step_value (Book a) = 0
step_value (Settle a) = 0
step_value (Forward m) = 0
step_value (Hand m) = 0
step_value (Close m) = 0

abbrev pub line_value : Line → ℕ
line_value Bad = 0
line_value (Opening s) = 0
line_value (Take s) = step_value s

-- a line by its kind, where what the kind says of such numbers is within the bound
abbrev Says : Kind → Type 0
Says k = (vs : List ℕ) → Within (Some vs) → line_value (k.says vs) ≤ most_number

said : (k : Kind) (x : Option (List ℕ)) → Says k → Within x → line_value (said_by k x) ≤ most_number
said k None says h = omega arith
said k (Some vs) says h = says vs h

of-kind : (k : Kind) (x : Option (List ℕ)) (l : Line) → Says k → line_value l ≤ most_number → line_value (by_kind k x l) ≤ most_number
of-kind k None l says h = h
of-kind k (Some bs) l says h = said k (numbers_of k.count bs) says (numbers-within k.count bs)

data Each : List Kind → Type 0 where
  end : Each []
  next : {k : Kind} {ks : List Kind} → Says k → Each ks → Each (k ∷ ks)

among : (ks : List Kind) (bs : List ℕ) → Each ks → line_value (line_among ks bs) ≤ most_number
unfolding line_among
among [] bs end = omega arith
among (k ∷ ks) bs (next says each) = of-kind k (after_word k.word bs) (line_among ks bs) says (among ks bs each)

-- of the thirteen kinds only the fourth sends, and its value is the fourth number
silent : (vs : List ℕ) → Within (Some vs) → 0 ≤ most_number
silent vs h = omega arith

each-kind : Each kinds
each-kind =
    next silent
    (next silent
    (next silent
    (next (λ vs h. h 3)
    (next silent
    (next silent
    (next silent
    (next silent
    (next silent
    (next silent
    (next silent
    (next silent
    (next silent
    end))))))))))))

pub line-value : (bs : List ℕ) → line_value (line_of bs) ≤ most_number
unfolding line_of
line-value bs = among kinds bs each-kind
