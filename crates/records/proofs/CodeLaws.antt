-- What holds of every code by its number: all laws that go through the codes one by one stand here.
use Rattle.std.proofs.Common.{◌≤◌, arith, ◌≡◌, refl, ap, false, eqb}
use Rattle.records.specs.declared.Code.{Code}
use Rattle.records.specs.declared.Code.TheVariants.{Done, Repeat, NoSite, NoAgent, NoMessage, Busy, NotUp, OutOfTurn, LockHeld, NotEnrolled, AgentsFull, MessagesFull, Changed, Gap, BadCount, NoRoom, BadLine, NotOpen, AlreadyOpen, BadState}
use Rattle.records.specs.Codes.{code_number, IsRefusal}

-- a code has two digits at most
pub code-within : (c : Code) → code_number c ≤ 99
code-within Done = omega arith
code-within Repeat = omega arith
code-within NoSite = omega arith
code-within NoAgent = omega arith
code-within NoMessage = omega arith
code-within Busy = omega arith
code-within NotUp = omega arith
code-within OutOfTurn = omega arith
code-within LockHeld = omega arith
code-within NotEnrolled = omega arith
code-within AgentsFull = omega arith
code-within MessagesFull = omega arith
code-within Changed = omega arith
code-within Gap = omega arith
code-within BadCount = omega arith
code-within NoRoom = omega arith
code-within BadLine = omega arith
code-within NotOpen = omega arith
code-within AlreadyOpen = omega arith
code-within BadState = omega arith

-- only Done has the number 0
pub not_done : (c : Code) → (c ≡ Done → ⊥) → eqb (code_number c) 0 ≡ false
not_done Done n = absurd (n refl)
not_done Repeat n = refl
not_done NoSite n = refl
not_done NoAgent n = refl
not_done NoMessage n = refl
not_done Busy n = refl
not_done NotUp n = refl
not_done OutOfTurn n = refl
not_done LockHeld n = refl
not_done NotEnrolled n = refl
not_done AgentsFull n = refl
not_done MessagesFull n = refl
not_done Changed n = refl
not_done Gap n = refl
not_done BadCount n = refl
not_done NoRoom n = refl
not_done BadLine n = refl
not_done NotOpen n = refl
not_done AlreadyOpen n = refl
not_done BadState n = refl

-- Done is no refusal, and no repeat
pub not-refused : (c : Code) → c ≡ Done → IsRefusal c → ⊥
not-refused c e h = let z : code_number c ≡ 0 = ap code_number e in omega (arith, h)

pub not-repeated : (c : Code) → c ≡ Done → c ≡ Repeat → ⊥
not-repeated c e f = let z : code_number c ≡ 0 = ap code_number e in omega (arith, ap code_number f)
