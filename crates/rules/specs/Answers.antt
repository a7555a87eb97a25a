-- The answers that every rule is made of. Assumes nothing.
use Rattle.std.specs.Prelude.{ℕ, Bool, true, false, Result, Ok, Err}
use Rattle.records.specs.declared.MailNo.{MailNo}
use Rattle.records.specs.declared.Code.{Code}
use Rattle.records.specs.declared.Code.TheVariants.{Done, Repeat}
use Rattle.rules.specs.declared.State.{State}
use Rattle.rules.specs.declared.Reply.{Reply}
use Rattle.rules.specs.declared.Taken.{Taken}
use Rattle.rules.specs.declared.Taken.TheVariants as taken

-- Done, with the next table and the number that the rule names
abbrev pub done : State → ℕ → Reply
done t n = record { state = t; code = Done; number = n }

-- a refusal: the table comes back unchanged, the number is 0
abbrev pub refuse : State → Code → Reply
refuse t c = record { state = t; code = c; number = 0 }

-- a repeat: the table unchanged, the number of the message that was taken
abbrev pub repeated : State → MailNo → Reply
repeated t m = record { state = t; code = Repeat; number = m.0 }

-- refused with a code unless a test passes; the tests of a rule stand in the order in which their codes come
abbrev pub unless : Bool → Code → State → Reply → Reply
unless true c t r = r
unless false c t r = refuse t c

-- what a function that takes a step in place leaves and answers, as a reply
abbrev pub reply_of : State → Result Taken Code → Reply
reply_of t (Ok (taken.Done n)) = done t n
reply_of t (Ok (taken.Repeat m)) = repeated t m
reply_of t (Err c) = refuse t c
