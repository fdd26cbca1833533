use Rattle.std.proofs.Common.{◌≡◌, ◌++◌, take}
use Rattle.std.specs.List.{flat_map, AllByRecursion}
use Rattle.entry_texts.specs.Spells.{listed_text, IsListed}
use Rattle.entry_texts.proofs.encoding.put_files.Given as goal

-- the first paths were written
abbrev pub invariant-loop-listed : goal.invariant-loop-listed
invariant-loop-listed l = (l.out.items ≡ l.fn.out.items ++ flat_map listed_text (take l.listed-index l.files)) × AllByRecursion IsListed (take l.listed-index l.files)
