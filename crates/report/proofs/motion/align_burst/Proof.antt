-- `report::motion::align_burst`: what the file check has tested is what align asks for; the front of the vectors is lent on.
use Rattle.std.specs.Prelude.{◌≡◌, ◌-◌, ◌≤◌}
use Rattle.algebra.specs.Prelude.{sym, ◌∙◌, arith, rules, length}
use lib.Seq.{length-take-le}
use Rattle.report.specs.Inner.{vector_room}
use Rattle.report.proofs.Files.{front-is, front_length}
use Rattle.admit_value.specs.BoundLaws.{values-samples}
use Rattle.report.proofs.Fits.{align_fits}
use Rattle.report.proofs.motion.align_burst as of

align-frames-requires : of.Tie.Need-align_frames-totals-requires
align-frames-requires c κs =
    let start = c.before.before.before.before.before in
    let taken = start.requires.taken in
    record { fits = align_fits taken (length-take-le _ start.args.vectors.now (omega (arith, taken.allowed.few))) start.requires.work-room; samples_fit = values-samples _ taken.small }

returns : of.Tie.Need-returns
returns c =
    let s = c.before.before.before in
    let start = c.before.before.before.before.before.before.before.before.before in
    let aligned = s.align_frames-totals.ensures in
    let n = vector_room (start.args.header.shape.count - 1) in
    let fits : n ≤ length start.args.vectors.now = omega (arith, start.requires.taken.allowed.few) in
    let vectors = start.args.vectors.now in
    let whole = length-take-le n vectors fits in
    let part = s.align_frames-totals.new.vectors in
    let same : length part ≡ n = omega (arith, whole) in
    record { found = front-is n vectors part fits same ∙ aligned.found; residuals = aligned.sums_are; same = front_length n vectors part fits same ∙ start.requires.vectors_room }

pub align_burst_spec : {M : Type 1} → of.Statement.statement M
align_burst_spec = of.Tie.close (of.Tie.spec
    (λ c. search rules) (λ c. search rules) (λ c. search rules)
    (λ c. sym (length-take-le _ _ (omega arith))) align-frames-requires (λ c. search rules)
    (λ c. search rules) returns)
