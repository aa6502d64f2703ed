-- `file_input::before_number`: the words are the text before what `split_once` finds.
use Rattle.std.specs.declared.option.Option.TheVariants.{Some}
use Rattle.file_input.proofs.before_number.Goals as goal

pub returns-in-Some : goal.returns-in-Some
returns-in-Some c =
    let split = c.in-Some.ensures.cases
    in (Some (split.0, split.1), split.2, split.3)
