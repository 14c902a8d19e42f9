-- None if none goes there; else the pages with the survivors, less the pages without them.
use Rattle.std.proofs.Common.{ℕ, ◌-◌, refl, sym, ap₂, ◌∙◌, arith, get_or}
use Rattle.promises.specs.Arriving.{more-is, more-none}
use Rattle.epoch.proofs.needs.new_pages.Goals as goal

pub returns-then-arrivals-eq0 : goal.returns-then-arrivals-eq0
returns-then-arrivals-eq0 c =
    let a = c.args in record {
      value = sym (more-none a.p a.tables.now (λ h. get_or a.come.now h 0) a.g c.if-arrivals-eq0.true);
      upper_bound = omega arith;
    }

pub overflow_add-have : goal.overflow_add-have
overflow_add-have c = omega (arith, c.type_inv.come c.args.g)

pub pages_for-requires : goal.pages_for-requires
pages_for-requires c = omega (arith, c.type_inv.come c.args.g)

pub returns : goal.returns
returns c =
    let a = c.args in
    let T = a.tables.now in record {
      value = ap₂ (λ (a b : ℕ). a - b) c.pages_for.ensures c.pages_for-2.ensures ∙ more-is a.p T (λ h. get_or a.come.now h 0) a.g c.count-have.result (get_or a.come.now a.g 0) c.count-have.ensures refl;
      upper_bound = omega (arith, c.type_inv.come c.args.g, c.pages_for.ensures, c.pages_for-2.ensures);
    }
