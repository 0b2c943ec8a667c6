-- What the tills come to, turn by turn of the loops in which they hear each other. Assumes nothing.
use Rattle.std.proofs.Common.{◌≡◌, ℕ, suc, ◌+◌, ◌-◌, ◌<◌, ◌≢◌, Bool, ◌||◌, List, Some, None, Option, refl, sym, ap, ap₂, ◌∙◌, arith}
use Rattle.std.specs.Prelude.{eqb}
use Rattle.std.specs.Option.{option_map}
use Rattle.std.proofs.lemmas.Bool.{cond-true, cond-false, eq-eqb, ne_eqb}
use Rattle.scripts.specs.declared.command.RuleName.{RuleName}
use Rattle.halls.specs.States.{Held}
use Rattle.halls.specs.Scenes.{till}
use Rattle.halls.specs.Sweeps.{Spoken, Hearing, quiet, joined, said_from, passed_on, passed_left, pass_answer, pass_left, go_on, positions, heard_from, all_heard, told_below, swept_below}
use Rattle.halls.specs.declared.calls.Passed.{Passed}

-- the parts of what is known as a whole
news_of : (b : Bool) (hs : List Held) (x : Hearing) → record { news = b; tills = hs } ≡ x → x.news ≡ b
news_of b hs x e = sym (ap (λ (z : Hearing). z.news) e)

tills_of : (b : Bool) (hs : List Held) (x : Hearing) → record { news = b; tills = hs } ≡ x → x.tills ≡ hs
tills_of b hs x e = sym (ap (λ (z : Hearing). z.tills) e)

next : (m : ℕ) → m + 1 ≡ suc m
next m = omega arith

-- without a message nothing is left otherwise
none_left : (rule : RuleName) (n j i : ℕ) (hs : List Held) (s : Option Spoken) → None ≡ option_map (passed_on rule n j i hs) s → passed_left rule n j i hs s ≡ hs
none_left rule n j i hs None e = refl
none_left rule n j i hs (Some s) e = absurd (let z : ◌≡◌ {A = ℕ} 0 1 = cc in omega arith)

module _ (rule rule' : RuleName) (n n' : ℕ) (same_rule : rule' ≡ rule) (same_size : n' ≡ n) where
  -- a message was passed on: what is left to hear goes on behind it
  pub heard_more : (t j i p : ℕ) (b : Bool) (hs hs' : List Held) (a : Passed) (x : Hearing) → t < positions → Some a ≡ pass_answer rule' n' j i p hs → hs' ≡ pass_left rule' n' j i p hs →
      heard_from rule n (positions - t) j i p (record { news = b; tills = hs }) ≡ x → heard_from rule n (positions - (t + 1)) j i (a.position + 1) (record { news = b || a.news; tills = hs' }) ≡ x
  unfolding heard_from
  heard_more t j i p b hs hs' a x low answered left e = sym once ∙ ap (λ (k : ℕ). heard_from rule n k j i p (record { news = b; tills = hs })) (sym fuel) ∙ e
    where
      fuel : positions - t ≡ suc (positions - (t + 1))
      fuel = omega (arith, low)

      once : heard_from rule n (suc (positions - (t + 1))) j i p (record { news = b; tills = hs }) ≡ heard_from rule n (positions - (t + 1)) j i (a.position + 1) (record { news = b || a.news; tills = hs' })
      once = ap₂ (go_on rule n (heard_from rule n (positions - (t + 1)) j i) (record { news = b; tills = hs }))
          (sym (answered ∙ ap₂ (λ (r : RuleName) (m : ℕ). pass_answer r m j i p hs) same_rule same_size))
          (sym (left ∙ ap₂ (λ (r : RuleName) (m : ℕ). pass_left r m j i p hs) same_rule same_size))

  -- there was none: that is all
  pub heard_end : (t j i p : ℕ) (b : Bool) (hs hs' : List Held) (x : Hearing) → t < positions → None ≡ pass_answer rule' n' j i p hs → hs' ≡ pass_left rule' n' j i p hs →
      heard_from rule n (positions - t) j i p (record { news = b; tills = hs }) ≡ x → record { news = b; tills = hs' } ≡ x
  unfolding heard_from
  heard_end t j i p b hs hs' x low answered left e =
      ap (λ (z : List Held). record { news = b; tills = z }) (left ∙ none_left rule' n' j i hs (said_from rule' n' j p (till j hs)) answered)
      ∙ sym once ∙ ap (λ (k : ℕ). heard_from rule n k j i p (record { news = b; tills = hs })) (sym fuel) ∙ e
    where
      fuel : positions - t ≡ suc (positions - (t + 1))
      fuel = omega (arith, low)

      once : heard_from rule n (suc (positions - (t + 1))) j i p (record { news = b; tills = hs }) ≡ record { news = b; tills = hs }
      once = ap (λ (z : Option Passed). go_on rule n (heard_from rule n (positions - (t + 1)) j i) (record { news = b; tills = hs }) z (pass_left rule n j i p hs))
          (sym (answered ∙ ap₂ (λ (r : RuleName) (m : ℕ). pass_answer r m j i p hs) same_rule same_size))

  -- another till heard all, or the next is the one that is heard
  pub told_more : (m j : ℕ) (b c : Bool) (hs hs' hs0 : List Held) → (m ≢ j) → record { news = b; tills = hs } ≡ told_below rule n m j hs0 → record { news = c; tills = hs' } ≡ all_heard rule' n' j m hs →
      record { news = b || c; tills = hs' } ≡ told_below rule n (m + 1) j hs0
  unfolding told_below
  told_more m j b c hs hs' hs0 ne e f =
      sym (ap (λ (k : ℕ). told_below rule n k j hs0) (next m) ∙ cond-false (eqb m j) (told_below rule n m j hs0) (joined (told_below rule n m j hs0) (all_heard rule n j m (told_below rule n m j hs0).tills)) (ne_eqb m j ne)
      ∙ ap₂ joined (sym e) (ap (all_heard rule n j m) (tills_of b hs (told_below rule n m j hs0) e) ∙ sym (f ∙ ap₂ (λ (r : RuleName) (k : ℕ). all_heard r k j m hs) same_rule same_size)))

  -- all that another till said was heard
  pub swept_more : (m : ℕ) (b c : Bool) (hs hs' hs0 : List Held) → record { news = b; tills = hs } ≡ swept_below rule n m hs0 → record { news = c; tills = hs' } ≡ told_below rule' n' n' m hs →
      record { news = b || c; tills = hs' } ≡ swept_below rule n (m + 1) hs0
  unfolding swept_below
  swept_more m b c hs hs' hs0 e f =
      sym (ap (λ (k : ℕ). swept_below rule n k hs0) (next m) ∙ ap₂ joined (sym e) (ap (told_below rule n n m) (tills_of b hs (swept_below rule n m hs0) e) ∙ sym (f ∙ ap₂ (λ (r : RuleName) (k : ℕ). told_below r k k m hs) same_rule same_size)))

pub told_skip : (rule : RuleName) (n m j : ℕ) (x : Hearing) (hs0 : List Held) → m ≡ j → x ≡ told_below rule n m j hs0 → x ≡ told_below rule n (m + 1) j hs0
unfolding told_below
told_skip rule n m j x hs0 same e = e ∙ sym (ap (λ (k : ℕ). told_below rule n k j hs0) (next m) ∙ cond-true (eqb m j) (told_below rule n m j hs0) (joined (told_below rule n m j hs0) (all_heard rule n j m (told_below rule n m j hs0).tills)) (eq-eqb m j same))

pub told_none : (rule : RuleName) (n j : ℕ) (hs : List Held) → quiet hs ≡ told_below rule n 0 j hs
unfolding told_below
told_none rule n j hs = refl

pub swept_none : (rule : RuleName) (n : ℕ) (hs : List Held) → quiet hs ≡ swept_below rule n 0 hs
unfolding swept_below
swept_none rule n hs = refl

-- no position is left
pub heard_last : (rule : RuleName) (n j i p : ℕ) (x y : Hearing) → heard_from rule n 0 j i p x ≡ y → x ≡ y
unfolding heard_from
heard_last rule n j i p x y e = e
