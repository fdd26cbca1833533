-- Texts of lists: the first item, and each other after a comma.
use Rattle.std.proofs.Common.{◌≡◌, ℕ, List, [], ◌∷◌, ◌++◌, map, codes, sym, ap, ◌∙◌, append-nil}
use Rattle.std.specs.List.{flat_map, join_with_byte}
use Rattle.std.specs.Str.{byte}
use Rattle.std.proofs.lemmas.List.Concat.{flat_map-cons}
use Rattle.hex.specs.Hex.{encode_lower}
use Rattle.host_names.specs.declared.digests.Digest.{Digest}
use Rattle.host_api.specs.ChangeLines.{line_text}
use Rattle.host_api.specs.Texts.{quoted, digest_list}
use Rattle.host_api.specs.declared.change_lines.ChangeLine.{ChangeLine}

joined : {X : Type 0} (f : X → List ℕ) (c : ℕ) (x : X) (xs : List X)
    → join_with_byte c (map f (x ∷ xs)) ≡ f x ++ flat_map (λ y. c ∷ f y) xs
joined f c x [] = sym (append-nil (f x))
joined f c x (y ∷ ys) = ap (λ t. f x ++ (c ∷ t)) (joined f c y ys) ∙ ap (λ t. f x ++ t) (sym (flat_map-cons (λ y. c ∷ f y) y ys))

pub digest_list-cons : (first : Digest) (others : List Digest)
    → digest_list (first ∷ others) ≡ quoted (encode_lower first.0) ++ flat_map (λ d. codes "," ++ quoted (encode_lower d.0)) others
digest_list-cons first others = joined (λ d. quoted (encode_lower d.0)) 44 first others

pub line_texts-cons : (first : ChangeLine) (others : List ChangeLine)
    → join_with_byte (byte ",") (map line_text (first ∷ others)) ≡ line_text first ++ flat_map (λ line. codes "," ++ line_text line) others
line_texts-cons first others = joined line_text 44 first others
