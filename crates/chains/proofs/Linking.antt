-- The chains, from the last entry down: those of the entries from place i on.
use Rattle.std.specs.Prelude.{ℕ, suc, ◌+◌, ◌-◌, ◌≤◌, ◌<◌, List, ◌++◌, ◌≡◌, refl, length, get_or, set, take, drop}
use Rattle.std.proofs.Common.{sym, ap, subst, ◌∙◌, arith, length-set, length-append, length-take, length-drop, ext_get_or, get_or-append-add, get_or-drop, get_or-take}
use Rattle.std.proofs.Math.Decide.{dec_lt, ℕ_discrete}
use Rattle.std.proofs.Math.ListN.{get_or-append}
use Rattle.lists.specs.Stores.{put, past}
use Rattle.layout.specs.Places.{entries_used, slot_region_in}
use Rattle.remember.specs.Table.{Entry, region, nth_region, entries_in}
use Rattle.remember.specs.TableWords.{to-long, to_at}
use Rattle.lists.specs.Zeros.{Cleared}
use Rattle.chains.specs.Chains.{chains_of, places_of, followed, Among}
use Rattle.chains.proofs.Following.{chain-names}
use Rattle.chains.specs.Firsts.{first_from, next_of}
use Rattle.chains.proofs.Firsts.{first-end, first-here, first-other, next-is, next-end, chains-long, chain_first, chain_next}
use Rattle.chains.specs.Linking.{Firsts, NextsAgree}

pub firsts-none : {R : ℕ} (es : List Entry) {i : ℕ} (w : List ℕ) → length es ≤ i → ((r : ℕ) → r < R → get_or w r 0 ≡ 0) → Firsts R es i w
firsts-none es {i} w l z r h = z r h ∙ sym (first-end (suc r) es i l)

-- entry i - 1, whose region is g
module _ {R : ℕ} (es : List Entry) {i g : ℕ} (pos : 0 < i) (low : i ≤ length es) (is : g ≡ nth_region es (i - 1)) (a : Among R es) where
  pub named : (1 ≤ g) × (g ≤ R)
  named = let h = a (i - 1) (omega arith) in (omega (arith, h.0), omega (arith, h.1))

  pub firsts_more : (w : List ℕ) → Firsts R es i w → R ≤ length w → Firsts R es (i - 1) (set w (g - 1) (i - 1 + 1))
  firsts_more w f long r h = go (ℕ_discrete (suc r) g)
    where
      go : Dec (suc r ≡ g) → get_or (set w (g - 1) (i - 1 + 1)) r 0 ≡ first_from (suc r) es (i - 1)
      go (yes e) =
          let q : r ≡ g - 1 = omega arith in
          let v : i - 1 + 1 ≡ suc (i - 1) = omega arith in
          ap (λ (k : ℕ). get_or (set w (g - 1) (i - 1 + 1)) k 0) q ∙ put w (g - 1) (i - 1 + 1) 0 (omega (arith, named.0, named.1))
          ∙ v ∙ sym (first-here (suc r) es (i - 1) (omega arith) (sym is ∙ sym e))
      go (no e) =
          let v : i ≡ suc (i - 1) = omega arith in
          past w (g - 1) (i - 1 + 1) r 0 (λ (q : r ≡ g - 1). e (omega (arith, named.0))) ∙ f r h
          ∙ ap (first_from (suc r) es) v ∙ sym (first-other (suc r) es (i - 1) (omega arith) (λ q. e (sym (is ∙ q))))

  -- its next word is the first word of its region before it comes
  pub next-first : (w : List ℕ) → Firsts R es i w → next_of es (i - 1) ≡ get_or w (g - 1) 0
  next-first w f =
      let v : suc (i - 1) ≡ i = omega arith in
      let q : suc (g - 1) ≡ g = omega (arith, named.0) in
      next-is es (i - 1) (omega arith) ∙ ap (first_from (nth_region es (i - 1)) es) v
      ∙ ap (λ (k : ℕ). first_from k es i) (sym (q ∙ is)) ∙ sym (f (g - 1) (omega (arith, named.0, named.1)))

-- the region of entry i - 1, as read
pub record Read (R N : ℕ) (m : List ℕ) (i g : ℕ) : Type 0 where
  pub is : g ≡ nth_region (entries_in N m) (i - 1)
  pub low : 1 ≤ g
  pub high : g ≤ R
  pub place : i ≤ length (entries_in N m)
  pub room : length (entries_in N m) ≤ N

pub region-read : {R N : ℕ} {m : List ℕ} → entries_used m ≤ N → Among R (entries_in N m) → {i g : ℕ} → 0 < i → i ≤ entries_used m → g ≡ slot_region_in N m (i - 1) → Read R N m i g
region-read {R} {N} {m} t a {i} {g} pos low e =
    let u = to-long N m (entries_used m) in
    let l : i ≤ length (entries_in N m) = omega arith in
    let q = e ∙ sym (ap region (to_at N m (entries_used m) (i - 1) (omega arith))) in
    let h = named (entries_in N m) pos l q a in
    record { is = q; low = h.0; high = h.1; place = l; room = omega arith }

-- ---- rebuilding

pub record Linked (R N : ℕ) (es : List Entry) (i : ℕ) (f f' : List ℕ) : Type 0 where
  pub long : length f' ≡ length f
  pub firsts : Firsts R es i f'
  pub nexts : (j : ℕ) → i ≤ j → j < N → get_or f' (R + j) 0 ≡ next_of es j
  pub spare : (j : ℕ) → R + N ≤ j → get_or f' j 0 ≡ get_or f j 0

pub linked-none : {R N : ℕ} (es : List Entry) {i : ℕ} {f f' : List ℕ} → i ≡ length es → Cleared 0 (R + N) f f' → Linked R N es i f' f'
linked-none {R} {N} es {f' = f'} e c = record {
  long = refl;
  firsts = firsts-none es f' (omega arith) (λ r h. c.zeros r (omega arith) (omega arith));
  nexts = λ j l h. c.zeros _ (omega arith) (omega arith) ∙ sym (next-end es j (omega arith));
  spare = λ j l. refl;
}

pub linked-more : {R N : ℕ} (es : List Entry) {i g : ℕ} {f f' : List ℕ} → Linked R N es i f f' → 0 < i → i ≤ length es → g ≡ nth_region es (i - 1) → Among R es
    → length es ≤ N → R + N ≤ length f → Linked R N es (i - 1) f (set (set f' (R + (i - 1)) (get_or f' (g - 1) 0)) (g - 1) (i - 1 + 1))
linked-more {R} {N} es {i} {g} {f} {f'} k pos low is a few room =
    record {
      long = length-set f'' (g - 1) (i - 1 + 1) ∙ long'';
      firsts = firsts_more es pos low is a f'' (λ r h. past f' (R + (i - 1)) x r 0 (λ (q : r ≡ R + (i - 1)). omega arith) ∙ k.firsts r h) (omega (arith, long''));
      nexts = λ j l h. past f'' (g - 1) (i - 1 + 1) (R + j) 0 (λ (q : R + j ≡ g - 1). omega (arith, here.0, here.1)) ∙ next j l h (ℕ_discrete j (i - 1));
      spare = λ j l.
          past f'' (g - 1) (i - 1 + 1) j 0 (λ (q : j ≡ g - 1). omega (arith, here.0, here.1)) ∙ past f' (R + (i - 1)) x j 0 (λ (q : j ≡ R + (i - 1)). omega arith)
          ∙ k.spare j l;
    }
  where
    x : ℕ
    x = get_or f' (g - 1) 0

    f'' : List ℕ
    f'' = set f' (R + (i - 1)) x

    long'' : length f'' ≡ length f
    long'' = length-set f' (R + (i - 1)) x ∙ k.long

    here : (1 ≤ g) × (g ≤ R)
    here = named es pos low is a

    next : (j : ℕ) → i - 1 ≤ j → j < N → Dec (j ≡ i - 1) → get_or f'' (R + j) 0 ≡ next_of es j
    next j l h (yes e) =
        ap (λ (y : ℕ). get_or f'' (R + y) 0) e ∙ put f' (R + (i - 1)) x 0 (omega (arith, k.long)) ∙ sym (next-first es pos low is a f' k.firsts) ∙ ap (next_of es) (sym e)
    next j l h (no e) = past f' (R + (i - 1)) x (R + j) 0 (λ (q : R + j ≡ R + (i - 1)). e (omega arith)) ∙ k.nexts j (omega arith) h

-- as the code does it, with x the first word as read
pub linked-step : {R N : ℕ} (es : List Entry) {i g : ℕ} {f f' : List ℕ} → Linked R N es i f f' → 0 < i → i ≤ length es → g ≡ nth_region es (i - 1) → Among R es
    → length es ≤ N → R + N ≤ length f → {x : ℕ} → x ≡ get_or f' (g - 1) 0 → {f₁ f₂ : List ℕ} → f₁ ≡ set f' (R + (i - 1)) x → f₂ ≡ set f₁ (g - 1) (i - 1 + 1)
    → Linked R N es (i - 1) f f₂
linked-step {R} {N} es {i} {g} {f} {f'} k pos low is a few room {x} e {f₁} {f₂} e₁ e₂ =
    subst (Linked R N es (i - 1) f) (sym (e₂ ∙ ap (λ (l : List ℕ). set l (g - 1) (i - 1 + 1)) (e₁ ∙ ap (set f' (R + (i - 1))) e)))
    (linked-more es k pos low is a few room)

-- ---- the words are those of the chains

-- words that agree with the chains at each position
agree : (R N : ℕ) (es : List Entry) (f : List ℕ) → length es ≤ N → Firsts R es 0 f → ((j : ℕ) → j < N → get_or f (R + j) 0 ≡ next_of es j)
    → (j : ℕ) → j < R + N → get_or f j 0 ≡ get_or (chains_of R N es) j 0
agree R N es f few a b j l = go (dec_lt j R)
  where
    go : Dec (j < R) → get_or f j 0 ≡ get_or (chains_of R N es) j 0
    go (yes h) = a j h ∙ sym (chain_first R N es few j h)
    go (no h) =
        let e : j ≡ R + (j - R) = omega arith in
        ap (λ (k : ℕ). get_or f k 0) e ∙ b (j - R) (omega arith) ∙ sym (chain_next R N es few (j - R)) ∙ ap (λ (k : ℕ). get_or (chains_of R N es) k 0) (sym e)

pub linked-all : {R N : ℕ} (es : List Entry) {f f₁ f' : List ℕ} → length es ≤ N → R + N ≤ length f → Cleared 0 (R + N) f f₁ → Linked R N es 0 f₁ f'
    → f' ≡ chains_of R N es ++ drop (R + N) f
linked-all {R} {N} es {f} {f₁} {f'} few room c k =
    ext_get_or 0 f' (chains_of R N es ++ drop (R + N) f)
    (omega (arith, k.long, c.long, length-append (chains_of R N es) (drop (R + N) f), chains-long R N es few, length-drop (R + N) f))
    (λ j l. go j (dec_lt j (R + N)))
  where
    go : (j : ℕ) → Dec (j < R + N) → get_or f' j 0 ≡ get_or (chains_of R N es ++ drop (R + N) f) j 0
    go j (yes h) =
        agree R N es f' few k.firsts (λ i l. k.nexts i (omega arith) l) j h
        ∙ sym (get_or-append (chains_of R N es) (drop (R + N) f) 0 j (omega (arith, chains-long R N es few)))
    go j (no h) =
        let e : R + N + (j - (R + N)) ≡ j = omega arith in
        k.spare j (omega arith) ∙ c.high j (omega arith)
        ∙ sym (
        ap (λ (i : ℕ). get_or (chains_of R N es ++ drop (R + N) f) i 0) (sym e)
        ∙ ap (λ (n : ℕ). get_or (chains_of R N es ++ drop (R + N) f) (n + (j - (R + N))) 0) (sym (chains-long R N es few))
        ∙ get_or-append-add (chains_of R N es) (drop (R + N) f) (j - (R + N)) 0 ∙ get_or-drop (R + N) f (j - (R + N)) 0 ∙ ap (λ (i : ℕ). get_or f i 0) e
        )

module _ (R N : ℕ) (es : List Entry) (f : List ℕ) (few : length es ≤ N) (room : R + N ≤ length f) where
  part-long : length (take (R + N) f) ≡ R + N
  part-long = omega (arith, length-take (R + N) f)

  pub agreed : Firsts R es 0 f → ((j : ℕ) → j < N → get_or f (R + j) 0 ≡ next_of es j) → take (R + N) f ≡ chains_of R N es
  agreed a b =
      ext_get_or 0 (take (R + N) f) (chains_of R N es) (part-long ∙ sym (chains-long R N es few))
      (λ j l. let h : j < R + N = omega (arith, part-long) in get_or-take (R + N) f j 0 h ∙ agree R N es f few a b j h)

  at : take (R + N) f ≡ chains_of R N es → (j : ℕ) → j < R + N → get_or f j 0 ≡ get_or (chains_of R N es) j 0
  at e j h = sym (get_or-take (R + N) f j 0 h) ∙ ap (λ (w : List ℕ). get_or w j 0) e

  pub agreed-first : take (R + N) f ≡ chains_of R N es → Firsts R es 0 f
  agreed-first e r h = at e r (omega arith) ∙ chain_first R N es few r h

  pub agreed-next : take (R + N) f ≡ chains_of R N es → (j : ℕ) → j < N → get_or f (R + j) 0 ≡ next_of es j
  agreed-next e j h = at e (R + j) (omega arith) ∙ chain_next R N es few j

-- ---- whether the words are those of the chains

next-right : (R : ℕ) (es : List Entry) (f : List ℕ) (i : ℕ) → 0 < i → get_or f (R + (i - 1)) 0 ≡ next_of es (i - 1)
    → ((j : ℕ) → i ≤ j → j < length es → get_or f (R + j) 0 ≡ next_of es j) → (j : ℕ) → i - 1 ≤ j → j < length es → get_or f (R + j) 0 ≡ next_of es j
next-right R es f i pos here above j l h = go (ℕ_discrete j (i - 1))
  where
    go : Dec (j ≡ i - 1) → get_or f (R + j) 0 ≡ next_of es j
    go (yes e) = ap (λ (k : ℕ). get_or f (R + k) 0) e ∙ here ∙ ap (next_of es) (sym e)
    go (no e) = above j (omega arith) h

-- at entry i - 1, of region g, with the first words w of the entries after it: its next word is x
module _ {R N : ℕ} {m : List ℕ} {i g : ℕ} (a : Among R (entries_in N m)) (r : Read R N m i g) (pos : 0 < i) (f w : List ℕ) (p : Firsts R (entries_in N m) i w) where
  pub next-wrong : (get_or f (R + (i - 1)) 0 ≡ get_or w (g - 1) 0 → ⊥) → NextsAgree R (entries_in N m) f → ⊥
  next-wrong d h = d (h (i - 1) (omega (arith, r.place)) ∙ next-first (entries_in N m) pos r.place r.is a w p)

  pub nexts-more : get_or f (R + (i - 1)) 0 ≡ get_or w (g - 1) 0 → ((j : ℕ) → i ≤ j → j < length (entries_in N m) → get_or f (R + j) 0 ≡ next_of (entries_in N m) j)
      → (j : ℕ) → i - 1 ≤ j → j < length (entries_in N m) → get_or f (R + j) 0 ≡ next_of (entries_in N m) j
  nexts-more e h = next-right R (entries_in N m) f i pos (e ∙ sym (next-first (entries_in N m) pos r.place r.is a w p)) h

-- the three parts of that: next words of entries, next words of none, first words
module _ (R N : ℕ) (m : List ℕ) (t : entries_used m ≤ N) (f : List ℕ) (room : R + N ≤ length f) where
  few : length (entries_in N m) ≤ N
  few = omega (arith, to-long N m (entries_used m))

  pub agree-nexts : take (R + N) f ≡ chains_of R N (entries_in N m) → NextsAgree R (entries_in N m) f
  agree-nexts e j l = agreed-next R N (entries_in N m) f few room e j (omega (arith, few))

  pub agree-rest : {u : ℕ} → u ≡ entries_used m → take (R + N) f ≡ chains_of R N (entries_in N m) → (j : ℕ) → R + u ≤ j → j < R + N → get_or f j 0 ≡ 0
  agree-rest {u} q e j l h =
      let z : j ≡ R + (j - R) = omega arith in
      ap (λ (k : ℕ). get_or f k 0) z ∙ agreed-next R N (entries_in N m) f few room e (j - R) (omega arith) ∙ next-end (entries_in N m) (j - R) (omega (arith, to-long N m (entries_used m)))

  pub agree-firsts : (w : List ℕ) → Firsts R (entries_in N m) 0 w → take (R + N) f ≡ chains_of R N (entries_in N m) → (j : ℕ) → j < R → get_or f j 0 ≡ get_or w j 0
  agree-firsts w p e j l = agreed-first R N (entries_in N m) f few room e j l ∙ sym (p j l)

  pub agree-all : {u : ℕ} (w : List ℕ) → u ≡ entries_used m → NextsAgree R (entries_in N m) f → ((j : ℕ) → R + u ≤ j → j < R + N → get_or f j 0 ≡ 0) → Firsts R (entries_in N m) 0 w
      → ((j : ℕ) → j < R → get_or f j 0 ≡ get_or w j 0) → take (R + N) f ≡ chains_of R N (entries_in N m)
  agree-all w q a b p c =
      agreed R N (entries_in N m) f few room (λ r l. c r l ∙ p r l) (λ j l. go j l (dec_lt j (length (entries_in N m))))
    where
      go : (j : ℕ) → j < N → Dec (j < length (entries_in N m)) → get_or f (R + j) 0 ≡ next_of (entries_in N m) j
      go j l (yes h) = a j h
      go j l (no h) = b (R + j) (omega (arith, to-long N m (entries_used m))) (omega arith) ∙ sym (next-end (entries_in N m) j (omega arith))

-- ---- what such words lead to

-- words that begin with those of the chains: the chain of region r + 1 names the places of its entries (Following says which they are), and ends
pub chain-agreed : (R N : ℕ) (es : List Entry) (f : List ℕ) → length es ≤ N → R + N ≤ length f → take (R + N) f ≡ chains_of R N es
    → (n : ℕ) → length es ≤ n → (r : ℕ) → r < R → followed R f n (get_or f r 0) ≡ places_of (suc r) 0 es
chain-agreed R N es f few room e n enough r l = chain-names R N es f few (at R N es f few room e) n enough r l
