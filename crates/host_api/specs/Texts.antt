-- The JSON texts of replies (RFC 8259): compact, members in the order of their bytes.
use Rattle.std.specs.Prelude.{ℕ, Bool, true, false, List, [], ◌++◌, map, Option, Some, None, codes, decimal}
use Rattle.std.specs.List.{join_with_byte}
use Rattle.std.specs.Str.{byte}
use Rattle.hex.specs.Hex.{encode_lower}
use Rattle.host_names.specs.Cells.{cell_text}
use Rattle.host_names.specs.declared.digests.Digest.{Digest}
use Rattle.host_names.specs.declared.names.SiteName.{SiteName}
use Rattle.site_change.specs.declared.refusals.ChangeRefusal.TheVariants.{NotComplete, DeployInUse, Clash}
use Rattle.serde_json.specs.Data.{string}
use Rattle.serde_json.specs.Written.{compact_text}
use Rattle.host_api.specs.ChangeLines.{list_text}
use Rattle.host_api.specs.Refusals.{name_of}
use Rattle.host_api.specs.declared.refusals.Refusal.{Refusal}
use Rattle.host_api.specs.declared.refusals.Refusal.TheVariants.{Change}
use Rattle.host_api.specs.declared.texts.DeployState.TheVariants.{Open, Kept}
use Rattle.host_api.specs.declared.texts.Told.{Told}
use Rattle.host_api.specs.declared.texts.Told.TheVariants.{Opened, Uploaded, Entered, Deploy, Changes, Refused}

-- the text in quotes
abbrev pub quoted : List ℕ → List ℕ
quoted text = codes "\"" ++ text ++ codes "\""

-- a number, or `null`
abbrev pub number_or_null : Option ℕ → List ℕ
number_or_null None = codes "null"
number_or_null (Some n) = decimal n

-- digests in quotes, with a comma between each two
abbrev pub digest_list : List Digest → List ℕ
digest_list digests = join_with_byte (byte ",") (map (λ d. quoted (encode_lower d.0)) digests)

-- what comes before the name of a refusal
abbrev pub detail_of : Refusal → List ℕ
detail_of (Change (NotComplete digest)) = codes "\"digest\":" ++ quoted (encode_lower digest.0) ++ codes ","
detail_of (Change (DeployInUse name)) = codes "\"alias\":" ++ quoted name.0 ++ codes ","
detail_of (Change (Clash change cell)) = codes "\"cell\":" ++ compact_text (string (cell_text cell)) ++ codes ",\"change\":" ++ decimal change ++ codes ","
detail_of refusal = codes ""

-- whether the text of a refusal names a cell; the others take no memory
abbrev pub has_cell : Refusal → Bool
has_cell (Change (Clash change cell)) = true
has_cell refusal = false

-- an opened deploy; one that published at once names that entry
abbrev pub opened_text : ℕ → Option ℕ → List Digest → List ℕ
opened_text id published required =
    codes "{\"id\":\"" ++ decimal id ++ codes "\",\"published\":" ++ number_or_null published
    ++ codes ",\"required\":[" ++ digest_list required ++ codes "]}"

-- an uploaded file, and the entry that published its deploy
abbrev pub uploaded_text : Option ℕ → Digest → List ℕ
uploaded_text published digest = codes "{\"published\":" ++ number_or_null published ++ codes ",\"sha\":\"" ++ encode_lower digest.0 ++ codes "\"}"

-- a deploy that is shown: the digests of its files that are missing, and the word for its state
abbrev pub deploy_text : ℕ → SiteName → List Digest → List ℕ → List ℕ
deploy_text id site required state =
    codes "{\"id\":\"" ++ decimal id ++ codes "\",\"required\":[" ++ digest_list required
    ++ codes "],\"site\":\"" ++ site.0 ++ codes "\",\"state\":\"" ++ state ++ codes "\"}"

-- the text of a refusal
abbrev pub refused_text : Refusal → List ℕ
refused_text refusal = codes "{" ++ detail_of refusal ++ codes "\"error\":\"" ++ name_of refusal ++ codes "\"}"

-- the text of a reply
abbrev pub told_text : Told → List ℕ
told_text (Opened id published required) = opened_text id published required
told_text (Uploaded published digest) = uploaded_text published digest
told_text (Entered number) = codes "{\"entry\":" ++ decimal number ++ codes "}"
told_text (Deploy id site (Open required)) = deploy_text id site required (codes "open")
told_text (Deploy id site Kept) = deploy_text id site [] (codes "kept")
told_text (Changes lines) = list_text lines
told_text (Refused refusal) = refused_text refusal
