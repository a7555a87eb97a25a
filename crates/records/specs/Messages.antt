-- What the rules ask of a message's record. Assumes nothing.
use Rattle.std.specs.Prelude.{ℕ, Bool, ◌||◌, eqb}
use Rattle.records.specs.declared.SiteNo.{SiteNo}
use Rattle.records.specs.declared.MailNo.{MailNo}
use Rattle.records.specs.declared.Status.{Status}
use Rattle.records.specs.declared.Status.TheVariants.{Queued, Out, Handed, Closed, Lost}
use Rattle.records.specs.declared.Message.{Message}
use Rattle.records.specs.declared.Item.{Item}
use Rattle.records.specs.Numbers.{agent_no, site_no, mail_no}

-- a status's place in the list of statuses: queued, out, handed, closed, lost
abbrev pub status_kind : Status → ℕ
status_kind Queued = 0
status_kind (Out s) = 1
status_kind Handed = 2
status_kind Closed = 3
status_kind Lost = 4

abbrev pub is_queued : Status → Bool
is_queued s = eqb (status_kind s) 0

abbrev pub is_out : Status → Bool
is_out s = eqb (status_kind s) 1

abbrev pub is_handed : Status → Bool
is_handed s = eqb (status_kind s) 2

abbrev pub is_closed : Status → Bool
is_closed s = eqb (status_kind s) 3

abbrev pub is_lost : Status → Bool
is_lost s = eqb (status_kind s) 4

-- a delivery that the lock is held for
abbrev pub is_under_way : Status → Bool
is_under_way s = is_out s || is_handed s

-- a message that stands in an inbox
abbrev pub is_delivered : Status → Bool
is_delivered s = is_handed s || is_closed s

-- the site that an out message travels to
abbrev pub travels_to : Status → SiteNo
travels_to Queued = site_no 0
travels_to (Out s) = s
travels_to Handed = site_no 0
travels_to Closed = site_no 0
travels_to Lost = site_no 0

-- the empty filling of the room for messages, and of the room for the log
abbrev pub empty_message : Message
empty_message =
    record { sender = agent_no 0; number = 0; addressee = agent_no 0; value = 0; status = Queued }

abbrev pub empty_entry : MailNo
empty_entry = mail_no 0

-- a message as it is read in an inbox
abbrev pub item_of : Message → Item
item_of x = record { sender = x.sender; number = x.number; value = x.value }
