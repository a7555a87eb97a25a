-- Questions about every element of a list, and about every place below a number. Assumes nothing.
use Rattle.std.specs.Prelude.{ℕ, zero, suc, Bool, true, cond, not, ◌&&◌, ◌||◌, List, [], ◌∷◌, Option, Some, None}
use Rattle.records.specs.declared.MailNo.{MailNo}
use Rattle.records.specs.Numbers.{mail_no}

-- the test passes at each element
unfoldable pub all_of {ℓ} : {A : Type ℓ} → (A → Bool) → List A → Bool
all_of f [] = true
all_of f (x ∷ xs) = f x && all_of f xs

-- the test passes at each place below n
unfoldable pub all_below : ℕ → (ℕ → Bool) → Bool
all_below zero f = true
all_below (suc n) f = f n && all_below n f

-- at how many places below n the test passes
unfoldable pub count_below : ℕ → (ℕ → Bool) → ℕ
count_below zero f = zero
count_below (suc n) f = cond (f n) (suc (count_below n f)) (count_below n f)

-- the highest message below n that passes the test
unfoldable pub last_below : ℕ → (MailNo → Bool) → Option MailNo
last_below zero f = None
last_below (suc n) f = cond (f (mail_no n)) (Some (mail_no n)) (last_below n f)

-- the second test passes where the first does
abbrev pub implies : Bool → Bool → Bool
implies a b = not a || b
