-- The order, one mark further: as it was where the mark is no effect, and with one operation more at its end where it is.
use Rattle.std.proofs.Common.{ℕ, suc, ◌<◌, ◌≡◌, sym, ◌∙◌, subst, ◌⊎◌, inl, inr, ◌↔◌, List, [], ◌∷◌, ◌++◌, map, length, take, length-append, add-one, arith}
use Rattle.std.proofs.Math.Decide.{dec_lt}
use Rattle.rules.specs.declared.State.{State}
use Rattle.order.specs.Lists.{In, Distinct, StandsBefore}
use Rattle.order.specs.Marks.{Mark, creates, takes, moves_begun}
use Rattle.order.specs.Operations.{Operation, creation, move, message, name_of, BeginsAt, EffectAt, OverAt}
use Rattle.order.proofs.ListLaws.{in_left, in-last, in-snoc, distinct_snoc, before-left, before_last, in_map, map_snoc}
use Rattle.order.proofs.MarkLaws.{more, at_last, begun-most}
use Rattle.order.proofs.Links.{CreationLinks, MailLinks, New}
use Rattle.order.proofs.EarlierPlaces.{begun-then, effect-old, effect-below, begins-below, begins-back, effect-back, over-back}

-- what is stated of the order, for the marks so far
pub record Ordered (first : State) (ms : List Mark) (order : List Operation) : Type 0 where
  pub exactly : (x : Operation) → In x order ↔ ((i : ℕ) × EffectAt first ms x i)
  pub once : Distinct (map name_of order)
  pub in_time :
      (x y : Operation)
      → In x order
      → In y order
      → (i j : ℕ)
      → OverAt first ms x i
      → BeginsAt first ms y j
      → i < j
      → StandsBefore x y order

module _
    (first : State)
    (ms : List Mark)
    (x : Mark)
    (t : State)
    (order : List Operation)
    (creations : CreationLinks ms t)
    (mail : MailLinks first ms t)
    (new : New t x)
    (old : Ordered first ms order)
  where
    size : length (more ms x) ≡ suc (length ms)
    size = length-append ms (x ∷ []) ∙ add-one (length ms)

    -- an operation of the order does not begin at the new place: it has had its effect
    not-now : (y : Operation) → In y order → BeginsAt first (more ms x) y (length ms) → ⊥
    not-now (creation p c) h b =
        let was = (old.exactly (creation p c)).0 h in
        let q : x ≡ creates p c = sym (at_last ms x) ∙ b in
        omega (arith, new.create p c q, creations.created was.0 p c was.1)
    not-now (move a k u) h b =
        let was = (old.exactly (move a k u)).0 h in
        let now : moves_begun first ms a ≡ k = sym (begun-then first ms x a) ∙ b.1 in
        let then : moves_begun first (take was.0 ms) a ≡ suc k = was.1.2 in
        omega (arith, begun-most first a ms was.0)
    not-now (message b y) h w =
        let was = (old.exactly (message b y)).0 h in
        let q : x ≡ takes w.0 b y = sym (at_last ms x) ∙ w.1 in
        let here = mail.known was.1.0 b y was.1.1 in
        (new.take w.0 b y q was.1.0 here.0).1 here.2

    began : (y : Operation) (i : ℕ) → In y order → BeginsAt first (more ms x) y i → BeginsAt first ms y i
    began y i h b = which (dec_lt i (length ms))
      where
        which : Dec (i < length ms) → BeginsAt first ms y i
        which (yes low) = begins-back first ms x y i low b
        which (no high) =
            let last : i ≡ length ms = omega (arith, size, begins-below first (more ms x) y i b) in
            absurd (not-now y h (subst (BeginsAt first (more ms x) y) last b))

    -- an effect is an old one, or stands at the new place
    effects : (y : Operation) (i : ℕ) → EffectAt first (more ms x) y i → ((j : ℕ) × EffectAt first ms y j) ⊎ EffectAt first (more ms x) y (length ms)
    effects y i h = which (dec_lt i (length ms))
      where
        which : Dec (i < length ms) → ((j : ℕ) × EffectAt first ms y j) ⊎ EffectAt first (more ms x) y (length ms)
        which (yes low) = inl (i, effect-back first ms x t mail new y i low h)
        which (no high) =
            let last : i ≡ length ms = omega (arith, size, effect-below first (more ms x) y i h) in
            inr (subst (EffectAt first (more ms x) y) last h)

    -- two that were in the order
    in-time :
        (y z : Operation)
        → In y order
        → In z order
        → (i j : ℕ)
        → OverAt first (more ms x) y i
        → BeginsAt first (more ms x) z j
        → i < j
        → StandsBefore y z order
    in-time y z hy hz i j over begin less =
        let b : BeginsAt first ms z j = began z j hz begin in
        let low : j < length ms = begins-below first ms z j b in
        old.in_time y z hy hz i j (over-back first ms x t mail new y i (omega arith) over) b less

    -- the mark is no effect
    pub order_same : ((y : Operation) → EffectAt first (more ms x) y (length ms) → ⊥) → Ordered first (more ms x) order
    order_same none =
        record {
          exactly = λ y. (
            λ h. let was = (old.exactly y).0 h in (was.0, effect-old first ms x y was.0 was.1),
            λ h. told y (effects y h.0 h.1),
          );
          once = old.once;
          in_time = in-time;
        }
      where
        told : (y : Operation) → ((j : ℕ) × EffectAt first ms y j) ⊎ EffectAt first (more ms x) y (length ms) → In y order
        told y (inl h) = (old.exactly y).1 h
        told y (inr h) = absurd (none y h)

    -- the mark is the effect of one operation, which is not over
    pub order-more :
        (z : Operation)
        → EffectAt first (more ms x) z (length ms)
        → ((y : Operation) → EffectAt first (more ms x) y (length ms) → y ≡ z)
        → ((y : Operation) → In y order → name_of y ≡ name_of z → ⊥)
        → ((i : ℕ) → OverAt first (more ms x) z i → ⊥)
        → Ordered first (more ms x) (order ++ (z ∷ []))
    order-more z it only fresh unfinished =
        record {
          exactly = λ y. (λ h. there y (in-snoc y z order h), λ h. told y (effects y h.0 h.1));
          once =
              subst
              Distinct
              (sym (map_snoc name_of z order))
              (distinct_snoc (name_of z) (map name_of order) old.once (λ h.
              let found = in_map name_of (name_of z) order h in
              fresh found.0 found.1 found.2));
          in_time = λ v w hv hw. times v w (in-snoc v z order hv) (in-snoc w z order hw);
        }
      where
        there : (y : Operation) → In y order ⊎ (y ≡ z) → (i : ℕ) × EffectAt first (more ms x) y i
        there y (inl h) = let was = (old.exactly y).0 h in (was.0, effect-old first ms x y was.0 was.1)
        there y (inr e) = (length ms, subst (λ (v : Operation). EffectAt first (more ms x) v (length ms)) (sym e) it)

        told : (y : Operation) → ((j : ℕ) × EffectAt first ms y j) ⊎ EffectAt first (more ms x) y (length ms) → In y (order ++ (z ∷ []))
        told y (inl h) = in_left y z order ((old.exactly y).1 h)
        told y (inr h) = subst (λ (v : Operation). In v (order ++ (z ∷ []))) (sym (only y h)) (in-last z order)

        times :
            (v w : Operation)
            → In v order ⊎ (v ≡ z)
            → In w order ⊎ (w ≡ z)
            → (i j : ℕ)
            → OverAt first (more ms x) v i
            → BeginsAt first (more ms x) w j
            → i < j
            → StandsBefore v w (order ++ (z ∷ []))
        times v w (inl hv) (inl hw) i j over begin less = before-left v w z order (in-time v w hv hw i j over begin less)
        times v w (inl hv) (inr e) i j over begin less =
            subst (λ (y : Operation). StandsBefore v y (order ++ (z ∷ []))) (sym e) (before_last v z order hv)
        times v w (inr e) hw i j over begin less =
            absurd (unfinished i (subst (λ (y : Operation). OverAt first (more ms x) y i) e over))
