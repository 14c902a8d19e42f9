-- The conditions of whole tables, in the parts that the functions check.
use Rattle.rules.specs.declared.Sizes.{Sizes}
use Rattle.layout.specs.Places.{cells_words, entries_used}
use Rattle.layout.specs.Words.{Words}
use Rattle.promises.specs.Whole.{Sized, DepthsWhole, VariablesWhole, EntriesWhole, UnusedWhole, CountersWhole, WholeFor}
use Rattle.remember.specs.Crossing.{cross_to}
use Rattle.remember.specs.Counted.{every-counted, counted-every}
use Rattle.whole.specs.Regions.{RegionsWhole}
use Rattle.whole.specs.Crossing.{CellsCross}

module _ {s : Sizes} {w : Words} where
  pub regions-of : WholeFor s w → RegionsWhole s w.tables
  regions-of k = record {
    pages = λ page l. record { whole = k.pages page l; mark = k.marks page l };
    partial = k.partial;
    counts = k.counts;
  }

  -- as many slots cross as there are entries used
  pub cells_of : WholeFor s w → CellsCross s w.cells w.tables (entries_used w.remember)
  cells_of k = record {
    whole = λ c u. record { object = k.objects c u; working = k.works c u };
    crossing = every-counted (cross_to s w.cells w.tables) (cells_words s) s.entries w.remember k.remember;
  }

  -- as many entries as crossing slots, each naming another: then every crossing slot is named
  pub whole_of : Sized s w → DepthsWhole s w → RegionsWhole s w.tables → CountersWhole s w → VariablesWhole s w → CellsCross s w.cells w.tables (entries_used w.remember)
      → UnusedWhole s w → EntriesWhole s w.cells w.remember w.tables → WholeFor s w
  whole_of z d r a v k u n = record {
    sized = z;
    depths = d;
    pages = λ page l. (r.pages page l).whole;
    partial = r.partial;
    counts = r.counts;
    variables = v;
    objects = λ i b. (k.whole i b).object;
    marks = λ page l. (r.pages page l).mark;
    works = λ i b. (k.whole i b).working;
    remember = counted-every (cross_to s w.cells w.tables) (cells_words s) s.entries w.remember n k.crossing;
    unused = u;
    counters = a;
  }
