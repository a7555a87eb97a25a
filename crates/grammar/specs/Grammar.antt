-- A script line: a word, `=`, and numbers with commas between them. Assumes nothing.
use Prim.Native.String.{String}
use Rattle.std.specs.Prelude.{ℕ, zero, suc, ◌+◌, ◌*◌, ◌-◌, Bool, cond, ◌&&◌, List, [], ◌∷◌, drop, get_or, leb, eqb, Option, Some, None}
use Rattle.records.specs.Numbers.{agent_no, site_no, mail_no}
use Rattle.rules.specs.declared.Step.TheVariants.{Spawn, Ask, Send, Enrol, Greet, Grant, Leap, Book, Settle, Forward, Hand, Close}
use Rattle.text.specs.Decimal.{bytes}
use Rattle.grammar.specs.declared.Line.{Line}
use Rattle.grammar.specs.declared.Line.TheVariants.{Bad, Opening, Take}
use Rattle.grammar.specs.declared.Numeral.{Numeral}

-- the largest number of a script
abbrev pub most_number : ℕ
most_number = 4294967295

-- digits are the bytes 48 to 57
abbrev pub is_digit : ℕ → Bool
is_digit b = leb 48 b && leb b 57

-- how many digits a text begins with
unfoldable pub digit_run : List ℕ → ℕ
digit_run [] = zero
digit_run (b ∷ bs) = cond (is_digit b) (suc (digit_run bs)) zero

-- the value of the first so many bytes, as digits after a value that was read already
unfoldable pub value_from : ℕ → ℕ → List ℕ → ℕ
value_from before zero bs = before
value_from before (suc n) [] = before
value_from before (suc n) (b ∷ bs) = value_from (before * 10 + (b - 48)) n bs

-- a number at the front of a text: 1 to 10 digits, leading zeros among them, and no other digit after them; at most 4,294,967,295
unfoldable pub numeral_of : List ℕ → Option Numeral
unfolding digit_run value_from
numeral_of bs =
    cond (leb 1 (digit_run bs) && (leb (digit_run bs) 10 && leb (value_from 0 (digit_run bs) bs) most_number))
    (Some (record { value = value_from 0 (digit_run bs) bs; taken = digit_run bs }))
    None

-- the numbers of a line, where it has them: a number before the others
abbrev pub and_then : ℕ → Option (List ℕ) → Option (List ℕ)
and_then v None = None
and_then v (Some vs) = Some (v ∷ vs)

-- after a comma
abbrev pub past_comma : List ℕ → (List ℕ → Option (List ℕ)) → Option (List ℕ)
past_comma [] next = None
past_comma (b ∷ bs) next = cond (eqb b 44) (next bs) None

abbrev pub at_end : List ℕ → Option (List ℕ)
at_end [] = Some []
at_end (b ∷ bs) = None

-- a number, and then what is to follow it
abbrev pub then_numbers : Option Numeral → List ℕ → (List ℕ → Option (List ℕ)) → Option (List ℕ)
then_numbers None bs next = None
then_numbers (Some x) bs next = and_then x.value (next (drop x.taken bs))

-- so many numbers with commas between them, and nothing after
unfoldable pub numbers_of : ℕ → List ℕ → Option (List ℕ)
unfolding numeral_of
numbers_of zero bs = None
numbers_of (suc zero) bs = then_numbers (numeral_of bs) bs (λ rest. at_end rest)
numbers_of (suc (suc n)) bs = then_numbers (numeral_of bs) bs (λ rest. past_comma rest (λ more. numbers_of (suc n) more))

-- what stands after a word, where a text begins with it
unfoldable pub after_word : List ℕ → List ℕ → Option (List ℕ)
after_word [] bs = Some bs
after_word (w ∷ ws) [] = None
after_word (w ∷ ws) (b ∷ bs) = cond (eqb w b) (after_word ws bs) None

-- a kind of line: its word with `=`, how many numbers it has, and what they say
pub record Kind : Type 0 where
  pub word : List ℕ
  pub count : ℕ
  pub says : List ℕ → Line

abbrev pub kind : String → ℕ → (List ℕ → Line) → Kind
kind w n f = record { word = bytes w; count = n; says = f }

abbrev pub first : List ℕ → ℕ
first v = get_or v 0 0

abbrev pub second : List ℕ → ℕ
second v = get_or v 1 0

abbrev pub third : List ℕ → ℕ
third v = get_or v 2 0

abbrev pub fourth : List ℕ → ℕ
fourth v = get_or v 3 0

abbrev pub kinds : List Kind
kinds =
    kind "sites=" 1 (λ v. Opening (first v))
    ∷ kind "spawn=" 1 (λ v. Take (Spawn (agent_no (first v))))
    ∷ kind "ask=" 2 (λ v. Take (Ask (agent_no (first v)) (site_no (second v))))
    ∷ kind "send=" 4 (λ v. Take (Send (agent_no (first v)) (second v) (agent_no (third v)) (fourth v)))
    ∷ kind "enrol=" 1 (λ v. Take (Enrol (agent_no (first v))))
    ∷ kind "greet=" 1 (λ v. Take (Greet (agent_no (first v))))
    ∷ kind "grant=" 1 (λ v. Take (Grant (agent_no (first v))))
    ∷ kind "leap=" 1 (λ v. Take (Leap (agent_no (first v))))
    ∷ kind "book=" 1 (λ v. Take (Book (agent_no (first v))))
    ∷ kind "settle=" 1 (λ v. Take (Settle (agent_no (first v))))
    ∷ kind "forward=" 1 (λ v. Take (Forward (mail_no (first v))))
    ∷ kind "hand=" 1 (λ v. Take (Hand (mail_no (first v))))
    ∷ kind "close=" 1 (λ v. Take (Close (mail_no (first v))))
    ∷ []

-- a line of a kind, or else what another kind makes of it
abbrev pub said_by : Kind → Option (List ℕ) → Line
said_by k None = Bad
said_by k (Some vs) = k.says vs

abbrev pub by_kind : Kind → Option (List ℕ) → Line → Line
by_kind k None elsewise = elsewise
by_kind k (Some bs) elsewise = said_by k (numbers_of k.count bs)

unfoldable pub line_among : List Kind → List ℕ → Line
unfolding after_word numbers_of
line_among [] bs = Bad
line_among (k ∷ ks) bs = by_kind k (after_word k.word bs) (line_among ks bs)

unfoldable pub line_of : List ℕ → Line
unfolding line_among
line_of bs = line_among kinds bs
