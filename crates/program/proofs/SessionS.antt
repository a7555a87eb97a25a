-- Session S as the program sees it: its bytes give the printed text, byte for byte.
use Rattle.std.proofs.Common.{ℕ, List, [], ◌∷◌, ◌++◌, ◌≡◌, refl}
use Prim.Native.String.{String}
use Rattle.text.specs.Decimal.{bytes}
use Rattle.program.specs.Program.{output_of}

-- the bytes of a text, each of whose lines ends with a line feed
abbrev pub lined : List String → List ℕ
lined [] = []
lined (l ∷ ls) = bytes l ++ (10 ∷ lined ls)

abbrev pub script_s : List String
script_s =
    "sites=3"
    ∷ "spawn=0"
    ∷ "enrol=1"
    ∷ "greet=1"
    ∷ "send=0,1,1,77"
    ∷ "ask=1,2"
    ∷ "send=0,1,1,77"
    ∷ "send=0,1,1,78"
    ∷ "grant=1"
    ∷ "forward=0"
    ∷ "leap=1"
    ∷ "book=1"
    ∷ "forward=0"
    ∷ "hand=0"
    ∷ "close=0"
    ∷ []

abbrev pub printed_s : List String
printed_s =
    "line.1=0,0"
    ∷ "line.2=0,1"
    ∷ "line.3=0,0"
    ∷ "line.4=0,0"
    ∷ "line.5=0,0"
    ∷ "line.6=0,0"
    ∷ "line.7=1,0"
    ∷ "line.8=20,0"
    ∷ "line.9=0,0"
    ∷ "line.10=16,0"
    ∷ "line.11=0,0"
    ∷ "line.12=0,0"
    ∷ "line.13=0,0"
    ∷ "line.14=0,0"
    ∷ "line.15=0,0"
    ∷ "sites=3"
    ∷ "agents=2"
    ∷ "messages=1"
    ∷ "handed=1"
    ∷ "lock=free"
    ∷ "agent.0=0,free,-,0"
    ∷ "agent.1=2,booked,-,2"
    ∷ "message.0=0,1,1,77,closed,-"
    ∷ "log.0=0"
    ∷ []

pub session-s : output_of (lined script_s) ≡ lined printed_s
unfolding output_of
session-s = refl
