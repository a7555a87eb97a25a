-- Along any sequence of steps, from any sound table: the order is built on the way.
use Rattle.std.proofs.Common.{ℕ, ◌+◌, ◌≡◌, refl, ap, sym, subst, inl, inr, Bool, true, cond, List, [], ◌∷◌, ◌++◌, append_assoc, append-nil, eqb}
use Rattle.records.specs.declared.AgentNo.{AgentNo}
use Rattle.records.specs.declared.SiteNo.{SiteNo}
use Rattle.records.specs.declared.MailNo.{MailNo}
use Rattle.records.specs.declared.Item.{Item}
use Rattle.records.specs.declared.Code.{Code}
use Rattle.records.specs.Messages.{item_of}
use Rattle.records.specs.Codes.{code_number}
use Rattle.records.proofs.CodeLaws.{not_done}
use Rattle.rules.specs.declared.State.{State}
use Rattle.rules.specs.declared.Reply.{Reply}
use Rattle.rules.specs.declared.Step.{Step}
use Rattle.rules.specs.Holding.{IsMessage, phase_of, message_at}
use Rattle.rules.specs.Steps.{addressee_of, step_of}
use Rattle.preservation.proofs.OneAgent.{Good}
use Rattle.preservation.proofs.Outcomes.{Went, spawned, asked, sent, enrolled, greeted, granted, leapt, booked, settled, forwarded, handed, lost, closed, Outcome, stayed, went, step-outcome}
use Rattle.order.specs.Marks.{Mark, nothing, asks, leaves, takes, hands, mark_done, mark_of, marks_of, table_after, in_move, asks_in, moves_begun}
use Rattle.order.specs.Operations.{Operation, creation, move, message, Targets, Taken, EffectAt}
use Rattle.order.specs.Boards.{put_all}
use Rattle.order.proofs.MarkLaws.{more}
use Rattle.order.proofs.Links.{PendingTo, MoveLink}
use Rattle.order.proofs.Invariant.{Inv}
use Rattle.order.proofs.OneAgentMarks.{ask-on, grant-on, book-on, settle-on, enrol-on}
use Rattle.order.proofs.CreationMarks.{greet-on, spawn-on}
use Rattle.order.proofs.LeapMark.{leap-on}
use Rattle.order.proofs.MailMarks.{refused-on, forward-on, close-on}
use Rattle.order.proofs.SendMark.{send-on}
use Rattle.order.proofs.HandMark.{hand_on}

-- the order so far, whatever it is
abbrev pub Reached : State → List Mark → State → Type 0
Reached start ms t = (order : List Operation) × Inv start ms t order

went_on : (start : State) (ms : List Mark) (t : State) (s : Step) (n : ℕ) (t' : State) → Reached start ms t → Went t s n t' → Reached start (more ms (mark_done s n)) t'
went_on start ms t s n t' r (spawned a here free some) = (_, spawn-on start ms t r.0 r.1 a here free some)
went_on start ms t s n t' r (asked a u here site free) = (_, ask-on start ms t r.0 r.1 a here u site free)
went_on start ms t s n t' r (sent a k b v from to up next some) = (_, send-on start ms t r.0 r.1 a k b v from to up next some)
went_on start ms t s n t' r (enrolled b p here born unheld) = (_, enrol-on start ms t r.0 r.1 b here p born)
went_on start ms t s n t' r (greeted b p here turn) = (_, greet-on start ms t r.0 r.1 b p here turn)
went_on start ms t s n t' r (granted a u here turn unheld) = (_, grant-on start ms t r.0 r.1 a here u turn unheld)
went_on start ms t s n t' r (leapt a u here turn) = (_, (leap-on start ms t r.0 r.1 a here u turn).1)
went_on start ms t s n t' r (booked a here turn) = (_, book-on start ms t r.0 r.1 a here turn)
went_on start ms t s n t' r (settled a here turn) = (_, settle-on start ms t r.0 r.1 a here turn)
went_on start ms t s n t' r (forwarded m u here turn unheld known) = (_, forward-on start ms t r.0 r.1 m u here turn unheld known)
went_on start ms t s n t' r (handed m u here turn met) = (_, hand_on start ms t r.0 r.1 m here u turn)
went_on start ms t s n t' r (lost m u here turn missed) = absurd (missed (r.1.good.1.out m here u turn))
went_on start ms t s n t' r (closed m here turn) = (_, close-on start ms t r.0 r.1 m here turn)

step-on : (start : State) (ms : List Mark) (t : State) (s : Step) (r : Reply) → Reached start ms t → Outcome t s r → Reached start (more ms (mark_of s r)) r.state
step-on start ms t s r v (stayed same code number below) =
    subst
    (λ (b : Bool). Reached start (more ms (cond b (mark_done s r.number) nothing)) r.state)
    (sym (not_done r.code code))
    (subst (Reached start (more ms nothing)) (sym same) (v.0, refused-on start ms t v.0 v.1))
step-on start ms t s r v (went code w) =
    subst
    (λ (c : Code). Reached start (more ms (cond (eqb (code_number c) 0) (mark_done s r.number) nothing)) r.state)
    (sym code)
    (went_on start ms t s r.number r.state v w)

run_on : (start : State) (ms : List Mark) (t : State) (ss : List Step) → Reached start ms t → Reached start (ms ++ marks_of t ss) (table_after t ss)
unfolding marks_of table_after
run_on start ms t [] v = subst (λ (l : List Mark). Reached start l t) (sym (append-nil ms)) v
run_on start ms t (s ∷ ss) v =
    subst
    (λ (l : List Mark). Reached start l (table_after (step_of t s).state ss))
    (append_assoc ms (mark_of s (step_of t s) ∷ []) (marks_of (step_of t s).state ss))
    (run_on start (more ms (mark_of s (step_of t s))) (step_of t s).state ss (step-on start ms t s (step_of t s) v (step-outcome t s)))

-- before the first step nothing is marked, and the order is empty
module _ (t : State) (g : Good t) where
  one : (a : AgentNo) → in_move (phase_of t a) ≡ true → moves_begun t [] a ≡ 1
  unfolding asks_in
  one a e = ap (λ (b : Bool). cond b 1 0 + 0) e

  link : (a : AgentNo) → MoveLink t [] a (phase_of t a)
  link a =
      record {
        pending = λ u h. (0, one a (moving u h), inl (refl, h), λ w k. same u w h k);
        unleft = λ u h i e. cc;
        unsettled = λ h i e. cc;
      }
    where
      moving : (u : SiteNo) → PendingTo (phase_of t a) u → in_move (phase_of t a) ≡ true
      moving u (inl e) = ap in_move e
      moving u (inr e) = ap in_move e

      aim : (u w : SiteNo) → PendingTo (phase_of t a) u → PendingTo (phase_of t a) w → w ≡ u
      aim u w (inl e) (inl f) = cc
      aim u w (inl e) (inr f) = cc
      aim u w (inr e) (inl f) = cc
      aim u w (inr e) (inr f) = cc

      same : (u w : SiteNo) → PendingTo (phase_of t a) u → Targets t [] a 0 w → w ≡ u
      same u w h (inl k) = aim u w h k.1
      same u w h (inr k) = let e : nothing ≡ asks a w = k.1.0 in cc

  known : (m : MailNo) (b : AgentNo) (x : Item) → Taken t [] m b x → IsMessage t m × (addressee_of t m ≡ b) × (item_of (message_at t m) ≡ x)
  known m b x (inl h) = h
  known m b x (inr h) = let e : nothing ≡ takes m b x = h.1 in cc

  none : (x : Operation) (i : ℕ) → EffectAt t [] x i → ⊥
  none (creation p c) i h = cc
  none (move a k u) i h = let e : nothing ≡ leaves a = h.1 in cc
  none (message b x) i h = let e : nothing ≡ hands h.0 = h.2 in cc

  begin : Inv t [] t []
  unfolding put_all
  begin =
      record {
        good = g;
        creations = record { created = λ i p c e. cc; greeted = λ i c e. cc };
        moves = link;
        mail =
            record {
              taken = λ m h. inl (h, refl, refl);
              known = known;
              handed = λ i m e. cc;
              closed = λ i m e. cc;
            };
        ordered =
            record {
              exactly = λ x. (λ h. absurd h, λ h. none x h.0 h.1);
              once = tt;
              in_time = λ x y h. absurd h;
            };
        board = refl;
        finds = tt;
      }

  -- the order of any sequence, with all that is known at its end
  pub reached : (ss : List Step) → Reached t (marks_of t ss) (table_after t ss)
  reached ss = run_on t [] t ss ([], begin)
