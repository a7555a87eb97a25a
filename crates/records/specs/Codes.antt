-- The number of each code. Assumes nothing.
use Rattle.std.specs.Prelude.{ℕ, ◌≤◌}
use Rattle.records.specs.declared.Code.{Code}
use Rattle.records.specs.declared.Code.TheVariants.{Done, Repeat, NoSite, NoAgent, NoMessage, Busy, NotUp, OutOfTurn, LockHeld, NotEnrolled, AgentsFull, MessagesFull, Changed, Gap, BadCount, NoRoom, BadLine, NotOpen, AlreadyOpen, BadState}

abbrev pub code_number : Code → ℕ
code_number Done = 0
code_number Repeat = 1
code_number NoSite = 10
code_number NoAgent = 11
code_number NoMessage = 12
code_number Busy = 13
code_number NotUp = 14
code_number OutOfTurn = 15
code_number LockHeld = 16
code_number NotEnrolled = 17
code_number AgentsFull = 18
code_number MessagesFull = 19
code_number Changed = 20
code_number Gap = 21
code_number BadCount = 22
code_number NoRoom = 23
code_number BadLine = 24
code_number NotOpen = 25
code_number AlreadyOpen = 26
code_number BadState = 27

-- every code from 10 up is a refusal
abbrev pub IsRefusal : Code → Type 0
IsRefusal c = 10 ≤ code_number c
