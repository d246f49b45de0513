-- What an XNC file asks of its numbers. XNC Format Specification, "Coordinates" and "Tool declaration".
use Rattle.std.specs.Prelude.{ℕ, List, Option, Some, None, Bool, ◌==◌, nat_lt, is_some, if◌then◌else◌}
use Rattle.std.specs.Option.{option_and_then}
use Rattle.std.specs.List.{list_any}
use Rattle.cam_numbers.specs.Numbers.{is_point, natural, signed}
use Rattle.cam_objects.specs.Limits.{last_tool}

-- holds a point
abbrev pub is_pointed : List ℕ → Bool
is_pointed run = list_any is_point run

-- an optional sign and digits, at least one
abbrev pub is_whole : List ℕ → Bool
is_whole run = is_some (signed natural run)

abbrev pub within_tools : ℕ → Option ℕ
within_tools n = if nat_lt last_tool n then None else Some n

-- the number of a tool that is selected, or 0 for none
abbrev pub selected_tool : List ℕ → Option ℕ
selected_tool run = option_and_then within_tools (natural run)

-- the number that a tool is declared by: 1 to 9,999
abbrev pub declared_tool : List ℕ → Option ℕ
declared_tool run = option_and_then (λ n. if n == 0 then None else within_tools n) (natural run)
