-- Two regioned heaps whose objects correspond answer every command alike, and what the rules say of the one they say of the other.
use Rattle.std.specs.Prelude.{ℕ, zero, suc, ◌<◌, ◌≡◌, Bool, cond}
use Rattle.std.proofs.Math.Path.{refl, sym}
use Rattle.std.proofs.Common.{ap, ap₂, subst₂, ◌∙◌}
use Rattle.std.proofs.Math.Dec.{leb}
use Rattle.rules.specs.declared.Sizes.{Sizes}
use Rattle.rules.specs.declared.Command.{Command}
use Rattle.rules.specs.Terms.{ask, done, limits, first}
use Rattle.rules.specs.NeverFreeing as nf
use Rattle.rules.specs.NeverFreeing.{meaning_of}
use Rattle.rules.specs.Graph.{target, ended, objects_in, pages_of, new_pages, free_pages, crossing}
use Rattle.laws.specs.GraphLaws.{Alive}
use Rattle.laws.specs.Counts.{same-free, same_new}
use Rattle.laws.specs.SameRules.{same-objects, same-crossing, same_target, same-new-ended, same-crossing-ended}
use Rattle.rules.specs.Rules as ru
use Rattle.rules.specs.Rules.{Regioned, graph, asks_entries}
use Rattle.laws.specs.RulesLaws.{sound-after}
use Rattle.laws.specs.LikeCells.{Apart}
use Rattle.laws.specs.LikeHeaps.{Like, After, question-like, value-like, after-like, same_after}

-- ---- a whole command, with its questions

module _ (s : Sizes) (to : ℕ → ℕ) (h k : Regioned) (l : Like to h k) (apart : Apart h) (m : Command) where
  room-like : (h₁ k₁ : Regioned) (to₁ : ℕ → ℕ) → Like to₁ h₁ k₁ → ru.room s k m k₁ ≡ ru.room s h m h₁
  unfolding ru.room
  room-like h₁ k₁ to₁ l₁ =
      let so = same-objects s to (graph h) (graph k) l.sound.closed l.sound'.closed l.partners in
      let so₁ = same-objects s to₁ (graph h₁) (graph k₁) l₁.sound.closed l₁.sound'.closed l₁.partners in
      let sc₁ = same-crossing s to₁ (graph h₁) (graph k₁) l₁.sound.closed l₁.sound'.closed l₁.partners in
      sym (ap₂ (λ (b : Bool) (x : ℕ). ask b 13 (cond (asks_entries (meaning_of m).effect) (ask (leb x s.entries) 14 0) 0))
      (ap₂ leb (same_new s (graph h) (graph h₁) (graph k) (graph k₁) so so₁) (same-free s (graph h) (graph k) so)) sc₁)

  pub record StepLike : Type 0 where
    pub answers : (ru.step s k m).answer ≡ (ru.step s h m).answer
    pub next : After s to h k l (ru.step s h m).next (ru.step s k m).next

  pub step-like : StepLike
  unfolding ru.step ru.answered ru.question ru.after
  step-like = go (nf.question (limits s) h.heap m) refl
    where
      nf-k : nf.question (limits s) k.heap m ≡ nf.question (limits s) h.heap m
      nf-k = question-like s to h k l m

      both : (q : ℕ) → ru.question s h m ≡ q → ru.question s k m ≡ q → After s to h k l (ru.answered s h m q).next (ru.answered s k m q).next
          → (ru.answered s k m q).answer ≡ (ru.answered s h m q).answer → StepLike
      both q e f a b =
          record {
            answers = ap (λ (x : ℕ). (ru.answered s k m x).answer) f ∙ b ∙ sym (ap (λ (x : ℕ). (ru.answered s h m x).answer) e);
            next = subst₂ (λ (x y : ℕ). After s to h k l (ru.answered s h m x).next (ru.answered s k m y).next) (sym e) (sym f) a;
          }

      refused-both : (q : ℕ) → ru.question s h m ≡ suc q → ru.question s k m ≡ suc q → StepLike
      refused-both q e f = both (suc q) e f (same_after s to h k l) refl

      go : (q : ℕ) → nf.question (limits s) h.heap m ≡ q → StepLike
      go (suc q) e = refused-both q (ap (λ (x : ℕ). first x (ru.room s h m (ru.after s h m))) e) (ap (λ (x : ℕ). first x (ru.room s k m (ru.after s k m))) (nf-k ∙ e))
      go zero e = done-both (ru.room s h m (ru.after s h m)) refl
        where
          after : After s to h k l (ru.after s h m) (ru.after s k m)
          after =
              after-like s to h k l apart m.thread (meaning_of m).effect (sound-after s h l.sound m) (sound-after s k l.sound' m)

          at-h : (w : ℕ) → ru.room s h m (ru.after s h m) ≡ w → ru.question s h m ≡ w
          at-h w f = ap₂ first e f

          at-k : (w : ℕ) → ru.room s h m (ru.after s h m) ≡ w → ru.question s k m ≡ w
          at-k w f = ap₂ first (nf-k ∙ e) (room-like (ru.after s h m) (ru.after s k m) after.to' after.like ∙ f)

          done-both : (w : ℕ) → ru.room s h m (ru.after s h m) ≡ w → StepLike
          done-both zero f = both 0 (at-h 0 f) (at-k 0 f) after (ap done (value-like s to h k l m.thread (meaning_of m).result))
          done-both (suc w) f = refused-both w (at-h (suc w) f) (at-k (suc w) f)

-- ---- all of it in one: what the rules say of h they say of k, through the map

pub record SameRules (s : Sizes) (to : ℕ → ℕ) (h k : Regioned) : Type 0 where
  pub answers : (m : Command) → (ru.step s k m).answer ≡ (ru.step s h m).answer
  pub targets : (r : ℕ) → 0 < r → (x : ℕ) → Alive (graph h) x → target s (graph k) r (to x) ≡ target s (graph h) r x
  pub objects : (q : ℕ) → 0 < q → objects_in (graph k) q ≡ objects_in (graph h) q
  pub pages : (q : ℕ) → 0 < q → pages_of (objects_in (graph k) q) ≡ pages_of (objects_in (graph h) q)
  pub free : free_pages s (graph k) ≡ free_pages s (graph h)
  pub crossings : crossing (graph k) ≡ crossing (graph h)
  pub ends : (r : ℕ) → 0 < r → (new_pages s (graph k) (ended s (graph k) r) ≡ new_pages s (graph h) (ended s (graph h) r)) × (crossing (ended s (graph k) r) ≡ crossing (ended s (graph h) r))

pub same-rules : (s : Sizes) (to : ℕ → ℕ) (h k : Regioned) → Like to h k → Apart h → SameRules s to h k
same-rules s to h k l apart =
    let objects = same-objects s to (graph h) (graph k) l.sound.closed l.sound'.closed l.partners in
    record {
      answers = λ m. (step-like s to h k l apart m).answers;
      targets = λ r pos x a. same_target s to (graph h) (graph k) l.sound.closed l.sound'.closed l.partners r pos x a;
      objects = λ q pos. sym (objects q pos);
      pages = λ q pos. ap pages_of (sym (objects q pos));
      free = sym (same-free s (graph h) (graph k) objects);
      crossings = sym (same-crossing s to (graph h) (graph k) l.sound.closed l.sound'.closed l.partners);
      ends = λ r pos. (
        sym (same-new-ended s to (graph h) (graph k) l.sound.closed l.sound'.closed l.partners r pos),
        sym (same-crossing-ended s to (graph h) (graph k) l.sound.closed l.sound'.closed l.partners r pos),
      );
    }
