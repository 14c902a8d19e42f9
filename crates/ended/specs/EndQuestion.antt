-- The questions of an end in terms of the words: 12 if no epoch is open, else 13 by the pages and 14 by the crossing slots, both counted on
-- the cells as they are before anything moves.
use Rattle.std.specs.Prelude.{ℕ, suc, ◌≤◌, ◌<◌, ◌≡◌, Bool, set, ltb, leb}
use Rattle.std.proofs.Common.{arith, sym, ◌∙◌, lt-ltb, le-leb}
use Rattle.std.proofs.Math.Path.{ap, ap₂}
use Rattle.rules.specs.declared.Sizes.{Sizes}
use Rattle.rules.specs.Terms.{ask, refused, limits, first}
use Rattle.rules.specs.NeverFreeing as nf
use Rattle.rules.specs.NeverFreeing.{depth_of}
use Rattle.rules.specs.Regions.{region_at}
use Rattle.rules.specs.Graph.{ended, crossing, new_pages}
use Rattle.rules.specs.Rules as ru
use Rattle.rules.specs.Rules.{graph}
use Rattle.laws.specs.RulesLaws.{region-pos, graph-ended}
use Rattle.laws.specs.SameRules.{same-new-ended, same-crossing-ended}
use Rattle.layout.specs.Words.{Words, depth_in, graph_of, heap_of}
use Rattle.promises.specs.Whole.{WholeFor}
use Rattle.promises.specs.StandsFor.{StandsFor}
use Rattle.promises.specs.Promises.{DidHere}
use Rattle.promises.specs.Reading.{words-closed}
use Rattle.promises.specs.Agreed.{heap-stands}
use Rattle.promises.proofs.Here.{here-depth}
use Rattle.promises.proofs.Questions.{did-refused}
use Rattle.promises.specs.OwnedPages.{pages_owned}
use Rattle.promises.proofs.OwnedPages.{heap-free}
use Rattle.ended.specs.AfterEnd.{end_of, after-end}

-- the new pages for the regions that grow at the end of region r, and the slots that would cross afterwards
abbrev pub pages_needed : Sizes → Words → ℕ → ℕ
pages_needed s w r = new_pages s (graph_of s w) (ended s (graph_of s w) r)

abbrev pub crossing_after : Sizes → Words → ℕ → ℕ
crossing_after s w r = crossing (ended s (graph_of s w) r)

module _ (s : Sizes) (w : Words) (whole : WholeFor s w) (t : ℕ) (th : t < s.threads) where
  -- 6 to 12
  asked : nf.question (limits s) (heap_of s w).heap (end_of t) ≡ ask (ltb 0 (depth_in w t)) 12 0
  unfolding nf.question nf.operands nf.state ask
  asked =
      ap (λ (b : Bool). ask b 7 (ask (ltb 0 (depth_of (heap_of s w).heap t)) 12 0)) (lt-ltb t s.threads th)
      ∙ ap (λ (n : ℕ). ask (ltb 0 n) 12 0) (here-depth s w t th)

  pub end-shut : depth_in w t ≡ 0 → ru.question s (heap_of s w) (end_of t) ≡ 12
  unfolding ru.question ask
  end-shut z = ap (λ (n : ℕ). first n (ru.room s (heap_of s w) (end_of t) (ru.after s (heap_of s w) (end_of t)))) (asked ∙ ap (λ (n : ℕ). ask (ltb 0 n) 12 0) z)

  module _ (k : ℕ) (deep : depth_in w t ≡ suc k) where
    abbrev r : ℕ
    r = region_at s t (suc k)

    base : StandsFor s w (heap_of s w) (λ x. x)
    base = heap-stands s w whole

    graph-after : graph (ru.after s (heap_of s w) (end_of t)) ≡ ended s (graph (heap_of s w)) r
    graph-after = ap graph (after-end s w t k th deep) ∙ graph-ended s (heap_of s w) r (region-pos s t (suc k)) (set (heap_of s w).heap.depths t k)

    new-after : new_pages s (graph (heap_of s w)) (graph (ru.after s (heap_of s w) (end_of t))) ≡ pages_needed s w r
    new-after =
        ap (new_pages s (graph (heap_of s w))) graph-after
        ∙ same-new-ended s (λ x. x) (graph (heap_of s w)) (graph_of s w) base.sound.closed (words-closed s w whole) base.partners r (region-pos s t (suc k))

    crossings-after : crossing (graph (ru.after s (heap_of s w) (end_of t))) ≡ crossing_after s w r
    crossings-after =
        ap crossing graph-after
        ∙ same-crossing-ended s (λ x. x) (graph (heap_of s w)) (graph_of s w) base.sound.closed (words-closed s w whole) base.partners r (region-pos s t (suc k))

    -- 13 and 14, by the pages without an owner and the size of the remember table
    pub end-question : ru.question s (heap_of s w) (end_of t) ≡ ask (leb (pages_needed s w r) (pages_owned s w 0)) 13 (ask (leb (crossing_after s w r) s.entries) 14 0)
    unfolding ru.question ru.room ask
    end-question =
        ap (λ (n : ℕ). first n (ru.room s (heap_of s w) (end_of t) (ru.after s (heap_of s w) (end_of t))))
        (asked ∙ ap (λ (b : Bool). ask b 12 0) (lt-ltb 0 (depth_in w t) (omega arith)))
        ∙ ap₂ (λ (n f : ℕ). ask (leb n f) 13 (ask (leb (crossing (graph (ru.after s (heap_of s w) (end_of t)))) s.entries) 14 0)) new-after
        (sym (heap-free s w (heap_of s w) (λ x. x) base))
        ∙ ap (λ (n : ℕ). ask (leb (pages_needed s w r) (pages_owned s w 0)) 13 (ask (leb n s.entries) 14 0)) crossings-after

    pub end-accepted : pages_needed s w r ≤ pages_owned s w 0 → crossing_after s w r ≤ s.entries → ru.question s (heap_of s w) (end_of t) ≡ 0
    unfolding ask
    end-accepted l m =
        end-question ∙ ap₂ (λ (b c : Bool). ask b 13 (ask c 14 0)) (le-leb (pages_needed s w r) (pages_owned s w 0) l) (le-leb (crossing_after s w r) s.entries m)

  -- ---- refused: nothing is changed

  pub ended-refused : (q : ℕ) → 0 < q → ru.question s (heap_of s w) (end_of t) ≡ q → DidHere s w (end_of t) w (refused q)
  ended-refused = did-refused s w whole (end_of t)

  pub refused-shut : depth_in w t ≡ 0 → DidHere s w (end_of t) w (refused 12)
  refused-shut z = ended-refused 12 (omega arith) (end-shut z)
