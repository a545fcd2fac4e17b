-- Data without a field of its root.
use Rattle.std.specs.Prelude.{ℕ, List, if◌then◌else◌}
use Rattle.std.specs.Str.{bytes_eq}
use Rattle.serde_json.specs.Data.{Data, null, boolean, number, string, array, object, Members, no_members, member}

abbrev pub members_without : List ℕ → Members → Members
members_without apart no_members = no_members
members_without apart (member name d members) =
    if bytes_eq name apart then members_without apart members else member name d (members_without apart members)

abbrev pub without : List ℕ → Data → Data
without apart null = null
without apart (boolean b) = boolean b
without apart (number n) = number n
without apart (string s) = string s
without apart (array items) = array items
without apart (object members) = object (members_without apart members)
