-- A step that changes messages, the log and the lock, and nothing of agents: what is left to show for the next table to be sound.
use Rattle.std.proofs.Common.{ℕ, ◌≤◌, ◌≡◌, sym, subst, List}
use Rattle.records.specs.declared.Lock.{Lock}
use Rattle.records.specs.declared.Status.{Status}
use Rattle.records.specs.declared.AgentNo.{AgentNo}
use Rattle.records.specs.declared.MailNo.{MailNo}
use Rattle.records.specs.Numbers.{mail_no}
use Rattle.records.specs.Messages.{empty_message, empty_entry}
use Rattle.rules.specs.declared.State.{State}
use Rattle.records.specs.Limits.{most_messages}
use Rattle.rules.specs.Holding.{IsSite, message_at, log_at, with_lock, with_messages, with_log}
use Rattle.rules.specs.Soundness.{Sound, LockRight, OutToAddressee, NoneLost, PartiesThere, NumbersRun, LogExact}

-- the lists that hold messages and log, and their counts
pub record Mail : Type 0 where
  pub messages : ℕ
  pub handed : ℕ
  pub sender : List AgentNo
  pub number : List ℕ
  pub addressee : List AgentNo
  pub value : List ℕ
  pub status : List Status
  pub log : List MailNo

abbrev pub mail_of : State → Mail
mail_of t =
    record {
      messages = t.messages;
      handed = t.handed;
      sender = t.sender;
      number = t.number;
      addressee = t.addressee;
      value = t.value;
      status = t.status;
      log = t.log;
    }

-- the same table with other messages, another log and another lock
abbrev pub with_mail : State → Lock → Mail → State
with_mail t h x =
    with_lock
    (with_log
    (with_messages t x.messages x.sender x.number x.addressee x.value x.status)
    x.handed
    x.log)
    h

-- what is to be shown of them
pub record MailFits (t : State) (h : Lock) (x : Mail) : Type 0 where
  pub messages_fit : x.messages ≤ most_messages
  pub log_fits : x.handed ≤ most_messages
  pub room : (i : ℕ) → x.messages ≤ i → message_at (with_mail t h x) (mail_no i) ≡ empty_message
  pub log_room : (i : ℕ) → x.handed ≤ i → log_at (with_mail t h x) i ≡ empty_entry
  pub lock : LockRight (with_mail t h x)
  pub out : OutToAddressee (with_mail t h x)
  pub lost : NoneLost (with_mail t h x)
  pub parties : PartiesThere (with_mail t h x)
  pub numbers : NumbersRun (with_mail t h x)
  pub log : LogExact (with_mail t h x)

pub mail-sound : (t : State) (h : Lock) (x : Mail) → Sound t → MailFits t h x → Sound (with_mail t h x)
mail-sound t h x s f =
    record {
      counts =
          record {
            some_site = s.counts.some_site;
            sites_fit = s.counts.sites_fit;
            some_agent = s.counts.some_agent;
            agents_fit = s.counts.agents_fit;
            messages_fit = f.messages_fit;
            log_fits = f.log_fits;
          };
      room = record { agents = s.room.agents; messages = f.room; log = f.log_room };
      sites =
          record {
            own = s.sites.own;
            asked = s.sites.asked;
            granted = s.sites.granted;
            mapped = s.sites.mapped;
            out = λ m b u e. subst (IsSite t) (sym (f.out m b u e)) (s.sites.own _ (f.parties.addressee m b));
          };
      families = record { child = s.families.child; parent = s.families.parent };
      born = s.born;
      map = s.map;
      lock = f.lock;
      out = f.out;
      lost = f.lost;
      parties = f.parties;
      numbers = f.numbers;
      log = f.log;
    }
