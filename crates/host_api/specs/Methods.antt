-- The methods that resources have, and the value of Allow (RFC 9110, sections 9 and 10.2.1).
use Rattle.std.specs.Prelude.{ℕ, List, [], ◌∷◌, codes}
use Rattle.std.specs.List.{join_by}
use Rattle.host_api.specs.declared.methods.Methods.{Methods}
use Rattle.host_api.specs.declared.methods.Methods.TheVariants.{Read, ReadOrDelete, PutOrDelete, Put, Delete, Post}
use Rattle.host_api.specs.declared.resources.Resource.{Resource}

-- these methods, in the order in which a reply lists them
abbrev pub names_of : Methods → List (List ℕ)
names_of Read = codes "GET" ∷ codes "HEAD" ∷ []
names_of ReadOrDelete = codes "GET" ∷ codes "HEAD" ∷ codes "DELETE" ∷ []
names_of PutOrDelete = codes "PUT" ∷ codes "DELETE" ∷ []
names_of Put = codes "PUT" ∷ []
names_of Delete = codes "DELETE" ∷ []
names_of Post = codes "POST" ∷ []

-- the methods of a resource as `Allow` lists them, with a comma and a space between each two
abbrev pub allow_text : Resource → List ℕ
allow_text r = join_by (λ name. name) (codes ", ") (names_of r.methods)
