-- The names and the status codes of refusals.
use Rattle.std.specs.Prelude.{ℕ, List, codes}
use Rattle.host_names.specs.declared.paths.PathError.{PathError}
use Rattle.host_names.specs.declared.paths.PathError.TheVariants as path
use Rattle.site_change.specs.declared.refusals.ChangeError.{ChangeError}
use Rattle.site_change.specs.declared.refusals.ChangeError.TheVariants as change
use Rattle.site_change.specs.declared.refusals.ChangeRefusal.{ChangeRefusal}
use Rattle.site_change.specs.declared.refusals.ChangeRefusal.TheVariants.{HistoryFull, TooManyFiles, NoSuchDraft, NotComplete, NoSuchDeploy, NoSuchFile, PathTaken, SamePath, NestedFolder, PathTooLong, NoSuchAlias, DeployInUse, NoSuchChange, NotAChange, AlreadyUndone, Clash}
use Rattle.host_api.specs.declared.refusals.HeadRefusal.{HeadRefusal}
use Rattle.host_api.specs.declared.refusals.HeadRefusal.TheVariants.{HeadTooLarge, BadHead, CodingRefused, LengthBad, BodyTooLarge}
use Rattle.host_api.specs.declared.refusals.Refusal.{Refusal}
use Rattle.host_api.specs.declared.refusals.Refusal.TheVariants.{Change, BadName, BadPath, BadDigest, BadBody, NotListed, WrongDigest, TooLarge, Missing, Damaged, Device, OutOfMemory, Broken, NoRoute, BadMethod, Head, NotSatisfiable}

-- what a reply says of a reason against a change or an undo: its name, and the status code (RFC 9110, section 15)
abbrev pub shown_of_change : ChangeRefusal → List ℕ × ℕ
shown_of_change HistoryFull = (codes "HistoryFull", 507)
shown_of_change TooManyFiles = (codes "TooManyFiles", 413)
shown_of_change NoSuchDraft = (codes "NoSuchDraft", 404)
shown_of_change (NotComplete digest) = (codes "NotComplete", 409)
shown_of_change NoSuchDeploy = (codes "NoSuchDeploy", 404)
shown_of_change NoSuchFile = (codes "NoSuchFile", 404)
shown_of_change PathTaken = (codes "PathTaken", 409)
shown_of_change SamePath = (codes "SamePath", 409)
shown_of_change NestedFolder = (codes "NestedFolder", 409)
shown_of_change PathTooLong = (codes "PathTooLong", 409)
shown_of_change NoSuchAlias = (codes "NoSuchAlias", 404)
shown_of_change (DeployInUse name) = (codes "DeployInUse", 409)
shown_of_change NoSuchChange = (codes "NoSuchChange", 404)
shown_of_change NotAChange = (codes "NotAChange", 409)
shown_of_change AlreadyUndone = (codes "AlreadyUndone", 409)
shown_of_change (Clash later cell) = (codes "Clash", 409)

-- what it says of a reason against a head
abbrev pub shown_of_head : HeadRefusal → List ℕ × ℕ
shown_of_head HeadTooLarge = (codes "HeadTooLarge", 431)
shown_of_head BadHead = (codes "BadHead", 400)
shown_of_head CodingRefused = (codes "CodingRefused", 501)
shown_of_head LengthBad = (codes "LengthBad", 400)
shown_of_head BodyTooLarge = (codes "BodyTooLarge", 413)

-- what it says of any reason
abbrev pub shown_of : Refusal → List ℕ × ℕ
shown_of (Change reason) = shown_of_change reason
shown_of BadName = (codes "BadName", 400)
shown_of BadPath = (codes "BadPath", 400)
shown_of BadDigest = (codes "BadDigest", 400)
shown_of BadBody = (codes "BadBody", 400)
shown_of NotListed = (codes "NotListed", 404)
shown_of WrongDigest = (codes "WrongDigest", 422)
shown_of TooLarge = (codes "TooLarge", 413)
shown_of Missing = (codes "Missing", 503)
shown_of Damaged = (codes "Damaged", 503)
shown_of Device = (codes "Device", 503)
shown_of OutOfMemory = (codes "OutOfMemory", 503)
shown_of Broken = (codes "Broken", 503)
shown_of NoRoute = (codes "NoRoute", 404)
shown_of (BadMethod resource) = (codes "BadMethod", 405)
shown_of (Head reason) = shown_of_head reason
shown_of (NotSatisfiable length) = (codes "NotSatisfiable", 416)

-- the name of a reason
abbrev pub name_of : Refusal → List ℕ
name_of refusal = (shown_of refusal).0

-- its status code (RFC 9110, section 15)
abbrev pub status_of : Refusal → ℕ
status_of refusal = (shown_of refusal).1

-- why a change was not made
abbrev pub of_change : ChangeError → Refusal
of_change (change.Refused reason) = Change reason
of_change change.OutOfMemory = OutOfMemory

-- why a text gives no path
abbrev pub of_path : PathError → Refusal
of_path path.BadPath = BadPath
of_path path.OutOfMemory = OutOfMemory
