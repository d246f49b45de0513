-- What a table of variables looks up to.
use Rattle.std.specs.Option.{option_map_or}
use Rattle.std.specs.Ordering.{nat_cmp}
use Rattle.std.specs.BTreeMap.{get}
use Rattle.cam_macros.specs.declared.expansion.variables.Variables.{Variables}
use Rattle.cam_macros.specs.Arithmetic.{Values, parameter}

abbrev pub looked_up : Variables → Values
looked_up v n = option_map_or (λ f. f.billionths) (get nat_cmp v.set n) (parameter v.params.now n)
