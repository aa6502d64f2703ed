-- `report::stack::run_burst`: what the file check has tested is what a run from the levels asks for.
use Rattle.algebra.specs.Prelude.{refl, sym, arith, rules, lit≤}
use lib.Seq.{length-take-le}
use Rattle.admit_value.specs.BoundLaws.{values-samples}
use Rattle.report.specs.Stack.{frame_of}
use Rattle.report.proofs.Fits.{merge-fits}
use Rattle.report.proofs.stack.run_burst as of

run-levels-requires : of.Tie.Need-run_levels-requires
run-levels-requires c κs =
    let start = c.before.before.before.before.before.before.before in
    let taken = start.requires.taken in
    record {
      fits = merge-fits taken (length-take-le _ start.args.vectors.now (omega (arith, taken.allowed.few))) start.requires.work-room start.requires.output_room;
      samples_fit = values-samples _ taken.small;
      shot_most = taken.shot_most;
      read_most = taken.read_most;
      strength_most = taken.strength_most;
      spatial-most = lit≤ tt;
      unfiltered = λ _. refl;
    }

returns : of.Tie.Need-returns
unfolding frame_of
returns c =
    let ran = c.before.before.before.before in
    (ran.run_levels.ensures.result, search rules)

pub run_burst_spec : {M : Type 1} → of.Statement.statement M
run_burst_spec = of.Tie.close (of.Tie.spec
    (λ c. search rules) (λ c. search rules) (λ c. search rules)
    (λ c. sym (length-take-le _ _ (omega arith))) run-levels-requires (λ c. search rules)
    (λ c. search rules) (λ c. search rules) returns)
