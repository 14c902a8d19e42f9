-- The first line: its sizes are accepted and the tables prepared, or no word changes.
use Rattle.std.specs.Prelude.{ℕ, List, ◌+◌, ◌≤◌, ◌≡◌, refl, Bool, cond, ◌&&◌, leb, eqb}
use Rattle.std.proofs.Common.{arith, mul-le-mul, ap, ap₂, ◌∙◌, length-append, length-drop}
use Rattle.std.proofs.Math.Path.{sym, subst}
use Rattle.std.proofs.Math.Bool.{true, false}
use Rattle.std.proofs.Math.ListN.{length, length-replicate}
use borrow.Author.Tests.{leb-true, le-leb, eq-eqb, ne_eqb}
use Rattle.lists.specs.Tests.{both_true}
use Rattle.rules.specs.declared.Sizes.{Sizes}
use Rattle.rules.specs.Terms.{InRange}
use Rattle.rules.specs.Rules.{unused}
use Rattle.layout.specs.Places.{tables_words}
use Rattle.promises.specs.Slices.{Slices}
use Rattle.promises.specs.Promises as pr
use Rattle.promises.specs.Promises.{LongEnough, PrepareAsked, out_of_range, short, Unused, Prepared}
use Rattle.promises.proofs.Preparing.{prepared-is}
use Rattle.script.specs.declared.Malformed.{Malformed}
use Rattle.script.specs.Text.{Line}
use Rattle.std.specs.Prelude.{Ok, Err}
use Rattle.printed.specs.Printed.{sizes_of, between, accepted, running, stopped, takes}
use Rattle.lines.specs.Lines.{Lent, Holds, Prepares, LineChanges, Begun}

-- ---- sizes

-- the sizes that the program accepts
pub record Accepted (s : Sizes) : Type 0 where
  pub range : InRange s
  pub few-pages : s.pages ≤ 32
  pub few-entries : s.entries ≤ 1024

between-true : (low n high : ℕ) → between low n high ≡ true → (low ≤ n) × (n ≤ high)
between-true low n high e = let b = both_true (leb low n) (leb n high) e in (leb-true low n b.0, leb-true n high b.1)

true-between : (low n high : ℕ) → low ≤ n → n ≤ high → between low n high ≡ true
true-between low n high a b = ap₂ (λ (x y : Bool). x && y) (le-leb low n a) (le-leb n high b)

pub accepted-are : (s : Sizes) → accepted s ≡ true → Accepted s
unfolding accepted
accepted-are s e =
    let t = both_true (between 1 s.threads 16) (between 1 s.variables 32 && (between 1 s.depth 8 && (between 1 s.pages 32 && between 0 s.entries 1024))) e in
    let v = both_true (between 1 s.variables 32) (between 1 s.depth 8 && (between 1 s.pages 32 && between 0 s.entries 1024)) t.1 in
    let d = both_true (between 1 s.depth 8) (between 1 s.pages 32 && between 0 s.entries 1024) v.1 in
    let p = both_true (between 1 s.pages 32) (between 0 s.entries 1024) d.1 in
    let tb = between-true 1 s.threads 16 t.0 in
    let vb = between-true 1 s.variables 32 v.0 in
    let db = between-true 1 s.depth 8 d.0 in
    let pb = between-true 1 s.pages 32 p.0 in
    let nb = between-true 0 s.entries 1024 p.1 in
    record {
      range = record {
        threads-low = tb.0;
        threads-high = tb.1;
        variables-low = vb.0;
        variables-high = vb.1;
        depth_low = db.0;
        depth-high = db.1;
        pages-low = pb.0;
        pages-high = omega arith;
        entries-high = omega arith;
      };
      few-pages = pb.1;
      few-entries = nb.1;
    }

pub are-accepted : (s : Sizes) → Accepted s → accepted s ≡ true
unfolding accepted
are-accepted s a =
    let r = a.range in
    ap₂ (λ (x y : Bool). x && y) (true-between 1 s.threads 16 r.threads-low r.threads-high)
    (ap₂ (λ (x y : Bool). x && y) (true-between 1 s.variables 32 r.variables-low r.variables-high)
    (ap₂ (λ (x y : Bool). x && y) (true-between 1 s.depth 8 r.depth_low r.depth-high)
    (ap₂ (λ (x y : Bool). x && y) (true-between 1 s.pages 32 r.pages-low a.few-pages) (true-between 0 s.entries 1024 (omega arith) a.few-entries))))

-- the lent slices are long enough for exactly these
accepted-long : (s : Sizes) (l : Slices) → Lent l → Accepted s → LongEnough s l
unfolding tables_words
accepted-long s l lent a =
    let r = a.range in
    record {
      cells = omega (arith, lent.cells, a.few-pages);
      remember = omega (arith, lent.remember, a.few-entries);
      tables = omega (arith, lent.tables, a.few-pages, mul-le-mul r.threads-high (let e : s.variables + s.depth + 1 ≤ 41 = omega (arith, r.variables-high, r.depth-high) in e));
      chains = omega (arith, lent.chains, a.few-entries, mul-le-mul r.threads-high r.depth-high);
    }

long-accepted : (s : Sizes) (l : Slices) → Lent l → InRange s → LongEnough s l → Accepted s
long-accepted s l lent r e = record { range = r; few-pages = omega (arith, lent.cells, e.cells); few-entries = omega (arith, lent.remember, e.remember) }

-- ---- prepare

module _ {l l' : Slices} {q : ℕ} (ns : List ℕ) (lent : Lent l) (k : Prepared (sizes_of ns) l q l') where
  abbrev s : Sizes
  s = sizes_of ns

  not-accepted : (Accepted s → ⊥) → accepted s ≡ false
  not-accepted f = go (accepted s) refl
    where
      go : (b : Bool) → accepted s ≡ b → b ≡ false
      go true e = absurd (f (accepted-are s e))
      go false e = refl

  refused : (q ≡ 0 → ⊥) → (Accepted s → ⊥) → Begun (Ok ns) l (eqb q 0) l'
  unfolding takes Holds LineChanges Prepares
  refused z f =
      let e : accepted s ≡ false = not-accepted f in
      record {
        told = ne_eqb q 0 z ∙ sym e;
        lent = subst Lent (sym (k.refused z)) lent;
        holds = subst (λ (b : Bool). Holds (cond b (running s (unused s) 2) stopped) l') (sym e) tt;
        changes = subst (λ (b : Bool). Prepares b s l l') (sym e) (k.refused z);
      }

  kept : Unused s l l' → LongEnough s l → Lent l'
  unfolding tables_words
  kept u e =
      let t = simp (length-append, length-replicate, length-drop) at (ap length u.tables) in
      let m = simp (length-append, length-replicate, length-drop) at (ap length u.remember) in
      let c = simp (length-append, length-replicate, length-drop) at (ap length u.cells) in
      let k = simp (length-append, length-replicate, length-drop) at (ap length u.chains) in
      record {
        cells = omega (arith, lent.cells, e.cells);
        remember = omega (arith, lent.remember, e.remember);
        tables = omega (arith, lent.tables, e.tables);
        chains = omega (arith, lent.chains, e.chains);
      }

  done : q ≡ 0 → Accepted s → Begun (Ok ns) l (eqb q 0) l'
  unfolding takes Holds LineChanges Prepares
  done z a =
      let e : accepted s ≡ true = are-accepted s a in
      let is = prepared-is s l l' (subst (λ (x : ℕ). Prepared s l x l') z k) in
      record {
        told = eq-eqb q 0 z ∙ sym e;
        lent = kept (k.unused z) (accepted-long s l lent a);
        holds = subst (λ (b : Bool). Holds (cond b (running s (unused s) 2) stopped) l') (sym e) ((λ x. x), is.stands, is.chains);
        changes = subst (λ (b : Bool). Prepares b s l l') (sym e) (k.unused z);
      }

  pub prepared-begun : Begun (Ok ns) l (eqb q 0) l'
  prepared-begun = go k.asked
    where
      go : PrepareAsked s l q → Begun (Ok ns) l (eqb q 0) l'
      go (out_of_range e f) = refused (λ (z : q ≡ 0). omega arith) (λ a. f a.range)
      go (short e r f) = refused (λ (z : q ≡ 0). omega arith) (λ a. f (accepted-long s l lent a))
      go (pr.accepted e r f) = done e (long-accepted s l lent r f)

pub malformed-begun : {l : Slices} {e : Malformed} → Lent l → Begun (Err e) l false l
unfolding takes Holds LineChanges
malformed-begun lent = record { told = refl; lent = lent; holds = tt; changes = refl }

pub begun-as : {line told : Line} {r : Bool} {l l' : Slices} → line ≡ told → Begun told l r l' → Begun line l r l'
begun-as {r = r} {l = l} {l' = l'} e b = subst (λ (x : Line). Begun x l r l') (sym e) b
