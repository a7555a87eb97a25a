-- A line's numbers, read one after the other, are the grammar's.
use Rattle.std.proofs.Common.{ℕ, zero, suc, ◌≤◌, ◌<◌, List, [], ◌∷◌, Option, Some, None, length, drop, ◌≡◌, refl, ap}
use Rattle.std.proofs.lemmas.Bool.{ne_eqb}
use Rattle.std.proofs.lemmas.Bool.Decides.{Decides-eqb}
use Rattle.std.proofs.lemmas.Slice.Eq.{strip_prefix_is}
use denote.Ref.{Bor}
use lib.ListN.{drop_of_length-le}
use lib.Seq.{drop-cons}
use Rattle.grammar.specs.declared.Numeral.{Numeral}
use Rattle.grammar.specs.Grammar.{past_comma, numeral_of, numbers_of}
use Rattle.grammar.specs.LineParts.{NoneLeads, Leads}
use Rattle.grammar.proofs.Words.{Stripped}

-- no number at the front
pub none-read : (n : ℕ) (bs : List ℕ) → None ≡ numeral_of bs → numbers_of n bs ≡ None
unfolding numbers_of
none-read zero bs e = refl
none-read (suc zero) bs e = rw (← e) refl
none-read (suc (suc n)) bs e = rw (← e) refl

no-comma : (bs : List ℕ) (next : List ℕ → Option (List ℕ)) → ((rest : List ℕ) → bs ≡ 44 ∷ rest → ⊥) → past_comma bs next ≡ None
no-comma [] next other = refl
no-comma (b ∷ bs) next other = rw (ne_eqb b 44 (λ e. other bs (ap (λ x. x ∷ bs) e))) refl

-- the number x at the front, and what stands behind it
module _ (bs : List ℕ) (x : Numeral) (read : Some x ≡ numeral_of bs) where
  pub last-is : length bs ≤ x.taken → numbers_of 1 bs ≡ Some (x.value ∷ [])
  unfolding numbers_of
  last-is end = rw (← read, drop_of_length-le bs end) refl

  pub last-more : x.taken < length bs → numbers_of 1 bs ≡ None
  unfolding numbers_of
  last-more more = rw (← read, drop-cons bs x.taken 0 more) refl

  module _ {found : Option (Bor (List ℕ))} (told : Stripped (44 ∷ []) (drop x.taken bs) found) where
    pub leading-other : found ≡ None → NoneLeads bs
    unfolding numbers_of
    leading-other e m =
        let other = strip_prefix_is Decides-eqb (drop x.taken bs) (44 ∷ []) found told in
        rw (← read, no-comma (drop x.taken bs) (λ more. numbers_of (suc m) more) (rw e at other)) refl

    pub leading-is : {rest : Bor (List ℕ)} → found ≡ Some rest → Leads bs x.value rest.now
    unfolding numbers_of
    leading-is {rest} e m =
        let same = strip_prefix_is Decides-eqb (drop x.taken bs) (44 ∷ []) found told in
        let whole : drop x.taken bs ≡ 44 ∷ rest.now = rw e at same in
        rw (← read, whole) refl
