-- An inbox is the log's messages to an agent, each as an item.
use Prim.Native.Nat.{ℕ}
use mathlib.Core.Path.{◌≡◌, refl}
use mathlib.Core.List.{List, [], ◌∷◌, map}
use lib.ListN.{take}
use Rattle.std.specs.Prelude.{slice_get}
use Rattle.std.specs.List.{filter}
use Rattle.std.specs.Option.{option_map}
use Rattle.std.proofs.lemmas.Option.{slice_get-map}
use Rattle.records.specs.declared.AgentNo.{AgentNo}
use Rattle.records.specs.declared.MailNo.{MailNo}
use Rattle.records.specs.declared.Item.{Item}
use Rattle.records.specs.Messages.{item_of}
use Rattle.std.proofs.Common.{inl, inr}
use Rattle.std.proofs.lemmas.Bool.{cases_Bool}
use Rattle.rules.specs.declared.State.{State}
use Rattle.rules.specs.Holding.{message_at, inbox_from, inbox_of}
use Rattle.rules.specs.Readers.{is_to, read_inbox}

-- a message as an item
abbrev pub item_in : State → MailNo → Item
item_in t m = item_of (message_at t m)

inbox-items : (t : State) (a : AgentNo) (ms : List MailNo) → inbox_from t a ms ≡ map (item_in t) (filter (is_to t a) ms)
unfolding inbox_from
inbox-items t a [] = refl
inbox-items t a (m ∷ ms) =
    elim (cases_Bool (is_to t a m)) [
      | inl its ↦ rw (its, inbox-items t a ms)
      | inr other ↦ rw (other, inbox-items t a ms)
    ]

-- what is read at a place of it
pub inbox_read :
    (t : State) (a : AgentNo) (place : ℕ)
    → read_inbox t a place ≡ option_map (item_in t) (slice_get (filter (is_to t a) (take t.handed t.log)) place)
unfolding read_inbox inbox_of
inbox_read t a place =
    rw (inbox-items t a (take t.handed t.log)) (slice_get-map (item_in t) (filter (is_to t a) (take t.handed t.log)) place)
