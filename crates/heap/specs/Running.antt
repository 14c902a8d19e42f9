-- One command and a block, from what `commands`, `epoch` and `collect` promise.
use Rattle.std.specs.Prelude.{ℕ, ◌+◌, ◌*◌, ◌≤◌, ◌<◌, ◌≡◌, refl, List, length}
use Rattle.std.proofs.Common.{arith, sym, ap, subst, subst₂, ◌∙◌}
use Rattle.rules.specs.declared.Sizes.{Sizes}
use Rattle.rules.specs.declared.Command.{Command}
use Rattle.rules.specs.declared.Answer.{Answer}
use Rattle.layout.specs.Places.{sizes_at}
use Rattle.layout.specs.Words.{Words, words}
use Rattle.chains.specs.Chains.{ChainsWhole, with_chains}
use Rattle.chains.proofs.LentChains.{chains-same, written-whole, written-again}
use Rattle.promises.specs.Whole.{WholeFor}
use Rattle.promises.specs.Slices.{Slices, slices, WholeSlices}
use Rattle.promises.specs.Promises.{DidHere, command_at, size, RunAsked, Ran}
use Rattle.promises.proofs.Here.{did-anywhere}
use Rattle.commands.specs.declared.Decoded.{Decoded}
use Rattle.commands.specs.declared.Decoded.TheVariants.{End, Collect}
use Rattle.commands.specs.declared.Obeyed.{Obeyed}
use Rattle.commands.specs.declared.Obeyed.TheVariants.{Answered, Ends, Collects}
use Rattle.commands.specs.Decoding.{command_for}
use Rattle.commands.specs.Obeys.{LeftToCaller, Obeys}
use Rattle.heap.specs.Looping.{Looped, looped-start, looped-more, looped-to, looped-ran, written}

-- o is what `commands` gave for command x
module _ (p : Sizes) (o : Obeyed) {c m t c' m' t' : List ℕ} {x : Command} (did : Obeys p c m t x c' m' t' o) where
  pub obeyed-answered : {a : Answer} → o ≡ Answered a → DidHere p (words c m t) x (words c' m' t') a
  obeyed-answered e = subst (Obeys p c m t x c' m' t') e did

  pub left_end : {u : ℕ} → o ≡ Ends u → LeftToCaller p (words c m t) x (words c' m' t') (Ends u) (End u)
  left_end e = subst (Obeys p c m t x c' m' t') e did

  pub left-collection : {u : ℕ} → o ≡ Collects u → LeftToCaller p (words c m t) x (words c' m' t') (Collects u) (Collect u)
  left-collection e = subst (Obeys p c m t x c' m' t') e did

-- an end or a collection starts from the words as they were
pub left-whole : {p : Sizes} {w w' : Words} {x : Command} {o : Obeyed} {d : Decoded} → WholeFor p w → LeftToCaller p w x w' o d → WholeFor p w'
left-whole {p} r l = subst (WholeFor p) (sym l.same) r

pub left-did : {p : Sizes} {w w' v : Words} {x : Command} {o : Obeyed} {d : Decoded} {a : Answer} → LeftToCaller p w x w' o d → DidHere p w' (command_for d) v a
    → DidHere p w x v a
left-did {p} {v = v} {a = a} l did = subst₂ (λ (b : Words) (y : Command). DidHere p b y v a) l.same (sym l.command) did

-- the same command
pub did-same : {s : Sizes} {w w' : Words} {x y : Command} {a : Answer} → DidHere s w x w' a → x ≡ y → DidHere s w y w' a
did-same {s} {w} {w'} {a = a} d e = subst (λ (m : Command). DidHere s w m w' a) e d

-- chains that were written for whole words are theirs, and what is written over them is written over what stood there before
module _ {p : Sizes} {w : Words} (k : List ℕ) {k₁ : List ℕ} (r : WholeFor p w) (e : k₁ ≡ with_chains p w.remember k) where
  pub chains-there : ChainsWhole p w.remember k₁
  chains-there = subst (ChainsWhole p w.remember) (sym e) (written-whole p w.remember k r.remember.entries.room)

  pub chains-over : (m : List ℕ) {k₂ : List ℕ} → k₂ ≡ with_chains p m k₁ → k₂ ≡ with_chains p m k
  chains-over m f = f ∙ ap (with_chains p m) e ∙ written-again p w.remember m k r.remember.entries.room

-- the state of the loop, with what each turn asks
pub record Turning (p : Sizes) (l : Slices) (block lent : List ℕ) (c m t k answers : List ℕ) (i : ℕ) : Type 0 where
  pub room : 2 * size block ≤ length lent
  pub low : i ≤ size block
  pub cells-long : length c ≡ length l.words.cells
  pub remember-long : length m ≡ length l.words.remember
  pub tables-long : length t ≡ length l.words.tables
  pub chains-long : length k ≡ length l.chains
  pub chains : k ≡ with_chains p m l.chains
  pub looped : Looped p l.words block lent (words c m t) answers i

module _ {p : Sizes} {l : Slices} {block lent c m t k answers : List ℕ} {i : ℕ} (s : Turning p l block lent c m t k answers i) where
  pub turn-ready : WholeFor p (words c m t)
  turn-ready = s.looped.whole

  pub turn-chains : ChainsWhole p m k
  turn-chains = chains-there l.chains turn-ready s.chains

  pub turn_end : size block ≤ i → Looped p l.words block lent (words c m t) answers (size block)
  turn_end h = looped-to s.looped (omega (arith, s.low))

  -- the answer's two words lie in the answer slice
  pub turn-fits : i < size block → 2 * i + 1 < length answers
  turn-fits h = omega (arith, s.room, s.looped.spare.long)

  pub turn_more : i < size block → {c' m' t' k' : List ℕ} {a : Answer} → DidHere p (words c m t) (command_at block i) (words c' m' t') a → k' ≡ with_chains p m' k
      → length k' ≡ length k → Turning p l block lent c' m' t' k' (written answers i a.number a.value) (i + 1)
  turn_more h {c'} {m'} {t'} {k'} {a} d e long =
      record {
        room = s.room;
        low = omega arith;
        cells-long = d.beyond.cells.long ∙ s.cells-long;
        remember-long = d.beyond.remember.long ∙ s.remember-long;
        tables-long = d.beyond.tables.long ∙ s.tables-long;
        chains-long = long ∙ s.chains-long;
        chains = chains-over l.chains turn-ready s.chains m' e;
        looped = looped-more a s.looped h s.room (did-anywhere p (words c m t) (command_at block i) (words c' m' t') a d);
      }

pub turn-start : {p : Sizes} {block lent c m t k : List ℕ} → WholeFor p (words c m t) → ChainsWhole p m k → 2 * size block ≤ length lent → Turning p (slices c m t k) block lent c m t k lent 0
turn-start {p} {block} {lent} {c} {m} {t} r w room =
    record {
      room = room;
      low = omega arith;
      cells-long = refl;
      remember-long = refl;
      tables-long = refl;
      chains-long = refl;
      chains = chains-same w;
      looped = looped-start p (words c m t) block lent r;
    }

-- the slices that the checks found whole, for the sizes that are read from them
pub whole_ready : {c m t k : List ℕ} {p : Sizes} → WholeSlices (slices c m t k) → p ≡ sizes_at t → WholeFor p (words c m t) × ChainsWhole p m k
whole_ready {c} {m} {t} {k} w e = subst (λ (q : Sizes). WholeFor q (words c m t) × ChainsWhole q m k) (sym e) (w.words, w.chains)

-- the whole block
pub looped-found : {c m t k block lent answers : List ℕ} {p : Sizes} {c' m' t' k' : List ℕ} {i : ℕ} → RunAsked (slices c m t k) block lent 0 → p ≡ sizes_at t
    → Turning p (slices c m t k) block lent c' m' t' k' answers i → size block ≤ i → Ran (slices c m t k) block lent 0 (slices c' m' t' k') answers
looped-found a e s h = looped-ran a e (turn_end s h) s.chains
