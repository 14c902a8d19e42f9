-- A collection keeps the promise of code 11 (02, W5).
use Rattle.std.specs.Prelude.{ℕ, ◌<◌, ◌≡◌, Bool}
use Rattle.std.proofs.Common.{arith, subst, ◌∙◌, ext_get_or, lt-ltb, le-leb}
use Rattle.std.proofs.Math.Path.{refl, sym, ap, ap₂}
use Rattle.rules.specs.declared.Sizes.{Sizes}
use Rattle.rules.specs.declared.Command.{Command}
use Rattle.rules.specs.Terms.{ask, done, first}
use Rattle.rules.specs.NeverFreeing as nf
use Rattle.rules.specs.Regions.{control}
use Rattle.rules.specs.Graph.{Graph, ended, new_pages, free_pages}
use Rattle.rules.specs.Rules as ru
use Rattle.rules.specs.Rules.{Regioned, graph, more_freed}
use Rattle.laws.specs.GraphLaws.{Alive}
use Rattle.laws.specs.EndLaws.{was-alive}
use Rattle.laws.specs.Collected.{takes-no-page}
use Rattle.laws.specs.RulesLaws.{Sound, control-pos, collected, graph-collected}
use Rattle.laws.specs.SameRules.{Partners, partners-ended, same-freed}
use Rattle.layout.specs.Words.{Words, BeginsIn, depth_in, depths_in, graph_of, heap_of}
use Rattle.promises.specs.Whole.{WholeFor, DepthsWhole}
use Rattle.promises.specs.StandsFor.{StandsFor}
use Rattle.promises.specs.Promises.{DidHere}
use Rattle.promises.specs.Ends.{part_of, Lives}
use Rattle.promises.specs.Reading.{alive-used, used-home, words-closed, length-depths, depth-at}
use Rattle.promises.specs.Agreed.{home-at, heap-stands}
use Rattle.promises.proofs.Questions.{did-moved}
use Rattle.ended.specs.Evacuated.{Evacuated, FreedCounted, Packed}
use Rattle.ended.specs.Living.{region-after, region-keeps}
use Rattle.ended.specs.EvacuatedWhole.{evacuated-whole}

-- the command: code 11 of thread t
abbrev pub collect_of : ℕ → Command
collect_of t = record { code = 11; thread = t; a = 0; b = 0; c = 0 }
