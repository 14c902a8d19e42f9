-- What prepare writes stands for the unused heap.
use Rattle.std.specs.Prelude.{ℕ, suc, ◌+◌, ◌-◌, ◌≤◌, ◌<◌, ◌≡◌, refl, List, ◌++◌, length, get_or, take, drop, replicate, eqb}
use Rattle.std.proofs.Common.{arith, ap, ◌∙◌, length-append, take_at}
use Rattle.std.proofs.Math.Path.{sym, ap₂}
use Rattle.std.proofs.lemmas.List.{length-replicate, get_or-replicate}
use Rattle.std.proofs.Math.ListN.{get_or-append}
use Rattle.rules.specs.Terms.{InRange}
use Rattle.layout.specs.Places.{depth_at, var_at, mark_at, count_at, count_of, made_at, freed_at, slot_at, slot_region_at, entries_used, owners_from, used_from, cells_words, remember_words, tables_words, chains_words, var_count}
use Rattle.layout.specs.Cells.{page_of}
use Rattle.layout.specs.Objects.{begins-used}
use Rattle.lists.specs.Tests.{cond-zero}
use Rattle.lists.specs.Zeros.{all-zero}
use Rattle.lists.specs.Counting.{sum-none}
use Rattle.lists.specs.Listed.{listed_same, listed-all}
use Rattle.remember.proofs.Crosses.{cross-slot}
use Rattle.promises.specs.Whole.{objects_on, WholeFor}
use Rattle.rules.specs.declared.Sizes.{Sizes}
use Rattle.rules.specs.NeverFreeing.{empty}
use Rattle.rules.specs.Regions.{regions}
use Rattle.rules.specs.Rules.{counted, unused}
use Rattle.laws.specs.Counters.{counted-small}
use Rattle.laws.specs.RulesLaws.{sound-unused}
use Rattle.laws.specs.SameRules.{renamed-zeros}
use Rattle.rules.specs.Pages.{free_page}
use Rattle.layout.specs.Words.{Words, BeginsIn, sizes_in, depths_in, vars_in, owner_in, used_in, made_in, freed_in, page_in, pages_at, pages_in}
use Rattle.chains.specs.Chains.{ChainsWhole}
use Rattle.chains.proofs.LentChains.{no-chains}
use Rattle.promises.specs.Slices.{Slices}
use Rattle.promises.specs.StandsFor.{StandsFor}
use Rattle.promises.specs.Areas.{starts}
use Rattle.promises.specs.Reading.{alive-used, length-depths, depth-at, length-vars, get_d-vars}
use Rattle.promises.specs.Promises.{LongEnough, PrepareAsked, out_of_range, short, accepted, Unused, Prepared}

zeros-then : (n i : ℕ) (rest : List ℕ) → i < n → get_or (replicate n 0 ++ rest) i 0 ≡ 0
zeros-then n i rest l = get_or-append (replicate n 0) rest 0 i (omega (arith, length-replicate {A = ℕ} n 0)) ∙ get_or-replicate n i 0 0 l

module _ (s : Sizes) (lent l : Slices) (range : InRange s) (long : LongEnough s lent) (u : Unused s lent l) where
  abbrev w : Words
  w = l.words

  table-zero : (i : ℕ) → 5 ≤ i → i < tables_words s → get_or w.tables i 0 ≡ 0
  table-zero i l m =
      let e : i ≡ suc (suc (suc (suc (suc (i - 5))))) = omega arith in
      ap₂ (λ (t : List ℕ) (j : ℕ). get_or t j 0) u.tables e ∙ zeros-then (tables_words s - 5) (i - 5) (drop (tables_words s) lent.words.tables) (omega arith)

  remember-zero : (i : ℕ) → 1 ≤ i → i < remember_words s → get_or w.remember i 0 ≡ 0
  remember-zero i l m =
      let e : i ≡ suc (i - 1) = omega arith in
      ap₂ (λ (t : List ℕ) (j : ℕ). get_or t j 0) u.remember e ∙ zeros-then (remember_words s - 1) (i - 1) (drop (remember_words s) lent.words.remember) (omega arith)

  cell-zero : (q : ℕ) → q < cells_words s → get_or w.cells q 0 ≡ 0
  cell-zero q l = ap (λ (c : List ℕ). get_or c q 0) u.cells ∙ zeros-then (cells_words s) q (drop (cells_words s) lent.words.cells) l

  owner-zero : (page : ℕ) → page < s.pages → owner_in s w page ≡ 0
  owner-zero page l = table-zero (owners_from s + page) (omega (arith, starts s)) (omega (arith, starts s))

  used-zero : (page : ℕ) → page < s.pages → used_in s w page ≡ 0
  used-zero page l = table-zero (used_from s + page) (omega (arith, starts s)) (omega (arith, starts s))

  no-object : (c : ℕ) → BeginsIn s w c → ⊥
  no-object c b = let v = begins-used s w.cells w.tables c b in omega (arith, v.place, used-zero (page_of c) v.page)

  made-zero : made_in s w ≡ 0
  made-zero = table-zero (made_at s) (omega (arith, starts s)) (omega (arith, starts s))

  freed-zero : freed_in s w ≡ 0
  freed-zero = table-zero (freed_at s) (omega (arith, starts s)) (omega (arith, starts s))

  whole : WholeFor s w
  whole =
      let none : get_or w.remember 1 0 ≡ 0 = remember-zero 1 (omega arith) (omega arith) in
      record {
        sized = record {
          sizes = ap (λ (t : List ℕ). sizes_in (record { cells = w.cells; remember = w.remember; tables = t })) u.tables;
          range = range;
          same = ap (λ (t : List ℕ). get_or t 0 0) u.remember;
          cells = omega (arith, ap length u.cells, length-append (replicate (cells_words s) 0) (drop (cells_words s) lent.words.cells), length-replicate {A = ℕ} (cells_words s) 0);
          remember = omega (arith, ap length u.remember, length-append (replicate (remember_words s - 1) 0) (drop (remember_words s) lent.words.remember), length-replicate {A = ℕ} (remember_words s - 1) 0);
          tables = omega (arith, starts s, ap length u.tables, length-append (replicate (tables_words s - 5) 0) (drop (tables_words s) lent.words.tables), length-replicate {A = ℕ} (tables_words s - 5) 0);
        };
        depths = λ k l. omega (arith, table-zero (depth_at k) (omega arith) (omega (arith, starts s)));
        pages = λ page l. let o = owner-zero page l in let v = used-zero page l in record {
          filled = record { free = λ e. v; taken = λ p. absurd (omega arith); cells = omega arith };
          region = λ p. absurd (omega arith);
        };
        partial = λ g l a b i j x y. omega (arith, x.owner, owner-zero a (omega arith));
        counts = λ g l m. table-zero (count_at s g) (omega (arith, starts s)) (omega (arith, starts s))
            ∙ sym (sum-none (objects_on s w.tables g) s.pages (λ k i. cond-zero (eqb (owner_in s w k) g) (used_in s w k) 0 (used-zero k i) refl));
        variables = λ i l p. absurd (omega (arith, table-zero (var_at s i) (omega arith) (omega (arith, starts s))));
        objects = λ c v. absurd (no-object c v);
        marks = λ page l. table-zero (mark_at s page) (omega (arith, starts s)) (omega (arith, starts s));
        works = λ c v. absurd (no-object c v);
        remember = record {
          entries = record {
            room = omega (arith, none);
            named = λ i l. absurd (omega (arith, none));
            rising = λ i j l m. absurd (omega (arith, none));
            rest = λ i l m. (remember-zero (slot_at i) (omega arith) (omega arith), remember-zero (slot_region_at s.entries i) (omega arith) (omega arith));
          };
          every = λ q l h. let o = cross-slot s w.cells w.tables q h in absurd (no-object o.object o.begins);
        };
        unused = λ q n. cell-zero q n.low;
        counters =
            ap₂ (λ (x y : ℕ). counted (x + y))
            (sum-none (λ i. count_of s w.tables (suc i)) (regions s) (λ i l. table-zero (count_at s (suc i)) (omega (arith, starts s)) (omega (arith, starts s)))) freed-zero
            ∙ counted-small 0 (omega arith) ∙ sym made-zero;
      }

  depths-zero : depths_in s w ≡ replicate s.threads 0
  depths-zero = all-zero (depths_in s w) s.threads (length-depths s w whole) (λ i l. depth-at s w i l ∙ table-zero (depth_at i) (omega arith) (omega (arith, starts s)))

  vars-zero : vars_in s w ≡ replicate (var_count s) 0
  vars-zero = all-zero (vars_in s w) (var_count s) (length-vars s w whole) (λ i l. get_d-vars s w i l ∙ table-zero (var_at s i) (omega arith) (omega (arith, starts s)))

  pages-free : pages_in s w ≡ replicate s.pages free_page
  unfolding pages_at
  pages-free =
      listed_same (page_in s w.tables) (λ i. free_page) s.pages (λ i l. ap₂ (λ (x y : ℕ). record { owner = x; used = y }) (owner-zero i l) (used-zero i l))
      ∙ listed-all s.pages free_page

  unused-stands : StandsFor s w (unused s) (λ x. x)
  unfolding unused empty
  unused-stands =
      record {
        whole = whole;
        sound = sound-unused s;
        depths = sym depths-zero;
        partners = record {
          home = λ x a. absurd (a refl);
          apart = λ x y a b e. e;
          onto = λ y a. absurd (no-object y (alive-used s w y a));
          refs = λ x a. absurd (a refl);
          vars = vars-zero ∙ sym (renamed-zeros (var_count s) (λ x. x));
        };
        nums = λ x a. absurd (a refl);
        counters = ap₂ (λ (x y : ℕ). record { made = x; freed = y }) (sym made-zero) (sym freed-zero);
        occupies = record { cells = λ x a. absurd (a refl); pages = sym pages-free };
      }

  unused-entries : entries_used w.remember ≡ 0
  unused-entries = remember-zero 1 (omega arith) (omega arith)

  unused-chains : ChainsWhole s w.remember l.chains
  unused-chains =
      record {
        words =
            ap (take (chains_words s)) u.chains ∙ take_at (replicate (chains_words s) 0) (drop (chains_words s) lent.chains) (chains_words s) (length-replicate (chains_words s) 0)
            ∙ sym (no-chains s w.remember unused-entries);
      }

pub record PreparedIs (s : Sizes) (l : Slices) : Type 0 where
  pub stands : StandsFor s l.words (unused s) (λ x. x)
  pub entries : entries_used l.words.remember ≡ 0
  pub chains : ChainsWhole s l.words.remember l.chains

pub prepared-is : (s : Sizes) (lent l : Slices) → Prepared s lent 0 l → PreparedIs s l
prepared-is s lent l p = go p.asked
  where
    go : PrepareAsked s lent 0 → PreparedIs s l
    go (out_of_range e n) = absurd (omega arith)
    go (short e r n) = absurd (omega arith)
    go (accepted e r k) = record { stands = unused-stands s lent l r k (p.unused refl); entries = unused-entries s lent l r k (p.unused refl); chains = unused-chains s lent l r k (p.unused refl) }
