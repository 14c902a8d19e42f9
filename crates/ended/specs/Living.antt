-- What is there after an end: the objects that live on, and what they name. The end of one region is an instance, by the rules.
use Rattle.std.specs.Prelude.{ℕ, suc, ◌<◌, List, ◌≡◌, refl, get_or}
use Rattle.std.proofs.Common.{arith, sym, ap, subst, ◌∙◌, ⊎_elim}
use Rattle.lists.specs.Members.{In, get_d-member}
use Rattle.rules.specs.declared.Sizes.{Sizes}
use Rattle.rules.specs.Graph.{Graph, ended}
use Rattle.laws.specs.GraphLaws.{Alive, Closed}
use Rattle.laws.specs.EndLaws.{home-stayed, home-went, was-alive, closed-ended}
use Rattle.layout.specs.Places.{var_of, var_count}
use Rattle.layout.specs.Cells.{page_of, field_of}
use Rattle.layout.specs.Words.{Words, owner_in, ref_count, refs_in, vars_in, graph_of, cell_count}
use Rattle.promises.specs.Whole.{WholeFor}
use Rattle.promises.specs.Reading.{used-home, used-owned, alive-used, words-closed, get_d-refs, get_d-vars, length-refs}
use Rattle.promises.specs.Ends.{Part, part_of, Outside, Survivor, Lives, lives-how}

-- whatever an object that lives on or a variable names lives on
pub record KeepsNamed (s : Sizes) (w : Words) (e : Part) : Type 0 where
  pub references : (c f d : ℕ) → Lives s w e c → f < ref_count w c → field_of w.cells c f ≡ suc d → Lives s w e d
  pub variables : (i d : ℕ) → i < var_count s → var_of s w.tables i ≡ suc d → Lives s w e d

-- g is the graph of the objects that live on, each in its region, with the references and variables of before
pub record GraphAfter (s : Sizes) (w : Words) (e : Part) (g : Graph) : Type 0 where
  pub outside : (c : ℕ) → Outside s w e c → g.home c ≡ owner_in s w (page_of c)
  pub survivor : (c : ℕ) → Survivor s w e c → g.home c ≡ e.goes c
  pub lives : (c : ℕ) → Alive g c → Lives s w e c
  pub count : g.count ≡ cell_count s
  pub refs : (c : ℕ) → g.refs c ≡ refs_in w c
  pub vars : g.vars ≡ vars_in s w

module _ {s : Sizes} {w : Words} {e : Part} {g : Graph} (whole : WholeFor s w) (a : GraphAfter s w e g) where
  pub lives-there : (c : ℕ) → Lives s w e c → Alive g c
  lives-there c l =
      ⊎_elim (λ o z. used-owned s w whole c o.used (sym (a.outside c o) ∙ z)) (λ v z. omega (arith, a.survivor c v, v.goes)) (lives-how l)

  pub keeps-named : Closed g → KeepsNamed s w e
  keeps-named k =
      record {
        references = λ c f d l m z.
            a.lives d (k.refs c d (lives-there c l) (subst (In (suc d)) (sym (a.refs c))
            (subst (λ (x : ℕ). In x (refs_in w c)) (get_d-refs w c f m ∙ z) (get_d-member (refs_in w c) f (omega (arith, length-refs s w whole c l.used))))));
        variables = λ i d l z. a.lives d (k.vars i d (ap (λ (v : List ℕ). get_or v i 0) a.vars ∙ get_d-vars s w i l ∙ z));
      }

-- the end of region r
module _ (s : Sizes) (w : Words) (whole : WholeFor s w) (r : ℕ) (pos : 0 < r) where
  pub region-after : GraphAfter s w (part_of s w r) (ended s (graph_of s w) r)
  unfolding ended
  region-after =
      record {
        outside = λ c o.
            let h = used-home s w c o.used in
            home-stayed s (graph_of s w) r c (λ z. o.out (sym h ∙ z)) ∙ h;
        survivor = λ c v. home-went s (graph_of s w) r c (used-home s w c v.used ∙ v.within);
        lives = λ c a.
            let u = alive-used s w c (was-alive s (graph_of s w) r pos (words-closed s w whole) c a) in
            record {
              used = u;
              goes = λ z.
                  let nz : (part_of s w r).goes c ≡ 0 → ⊥ = λ y. a (home-went s (graph_of s w) r c (used-home s w c u ∙ z) ∙ y) in
                  omega arith;
            };
        count = refl;
        refs = λ c. refl;
        vars = refl;
      }

  pub region-keeps : KeepsNamed s w (part_of s w r)
  region-keeps = keeps-named whole region-after (closed-ended s (graph_of s w) r pos (words-closed s w whole))
