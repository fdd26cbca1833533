use Rattle.std.proofs.Common.{◌≡◌, arith}
use Rattle.std.proofs.lemmas.List.{take_more_same}
use Rattle.touch_index.proofs.fronts.same_bytes.Goals as goal
