-- Opening gives a sound table exactly for 1 to 16 sites, and the table that stands for none is not sound.
use Rattle.std.proofs.Common.{ℕ, ◌≤◌, arith, ltb, leb, ◌≡◌, sym, subst, ◌↔◌, ⊎_elim, Bool, true, false, ◌&&◌, leb-true, le-leb, ltb-true}
use Rattle.std.proofs.lemmas.Bool.{and_parts, and_from, cases_Bool}
use Rattle.records.specs.declared.Code.TheVariants.{BadCount}
use Rattle.records.specs.Limits.{most_sites}
use Rattle.rules.specs.Holding.{no_state}
use Rattle.rules.specs.Answers.{done, unless}
use Rattle.rules.specs.Soundness.{Sound}
use Rattle.rules.specs.SoundTest.{sound_test}
use Rattle.rules.specs.Steps.{opened, open_of}
use Rattle.rules.proofs.SoundIff.{sound-from}

pub none-unsound : Sound no_state → ⊥
none-unsound s = let h : 1 ≤ 0 = s.counts.some_site in omega arith

opened-test : (n : ℕ) → leb 1 n ≡ true → leb n 16 ≡ true → sound_test (opened n) ≡ true
unfolding sound_test
opened-test n h k = rw (h, k)

pub opened-sound : (n : ℕ) → 1 ≤ n → n ≤ most_sites → Sound (opened n)
opened-sound n low high = sound-from (opened n) (opened-test n (le-leb 1 n low) (le-leb n most_sites high))

pub opening-sound : (n : ℕ) → Sound (open_of n).state ↔ ((1 ≤ n) × (n ≤ most_sites))
unfolding open_of
opening-sound n = (
  λ s.
      ⊎_elim
      (λ (h : (ltb 0 n && leb n most_sites) ≡ true).
      (ltb-true 0 n (and_parts _ _ h).0, leb-true n most_sites (and_parts _ _ h).1))
      (λ (h : (ltb 0 n && leb n most_sites) ≡ false).
      absurd (none-unsound (subst (λ (b : Bool). Sound (unless b BadCount no_state (done (opened n) 0)).state) h s)))
      (cases_Bool (ltb 0 n && leb n most_sites)),
  λ r.
      subst
      (λ (b : Bool). Sound (unless b BadCount no_state (done (opened n) 0)).state)
      (sym (and_from _ _ (le-leb 1 n r.0) (le-leb n most_sites r.1)))
      (opened-sound n r.0 r.1),
)
