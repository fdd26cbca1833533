-- The phrases of statuses hold no line's end.
use Rattle.std.proofs.Common.{◌≡◌, ℕ, ◌==◌, Bool, true, false, cond, List, [], Option, Some, refl}
use Rattle.std.specs.Prelude.{codes, unwrap_or}
use Rattle.std.specs.List.{list_all}
use Rattle.http.specs.StatusCode.{reason_phrase}
use Rattle.http_wire.specs.Replies.{is_within_line}

-- no byte of the text is in a line's end
abbrev pub Within : List ℕ → Type 0
Within text = list_all is_within_line text ≡ true

-- the phrase of one code, or that of the others
one : (b : Bool) (text : List ℕ) (rest : Option (List ℕ)) → Within text → Within (unwrap_or rest []) → Within (unwrap_or (cond b (Some text) rest) [])
one true text rest within others = within
one false text rest within others = others

pub phrase_within : (code : ℕ) → Within (unwrap_or (reason_phrase code) [])
phrase_within code =
    (one (code == 100) (codes "Continue") _ refl
    (one (code == 101) (codes "Switching Protocols") _ refl
    (one (code == 102) (codes "Processing") _ refl
    (one (code == 103) (codes "Early Hints") _ refl
    (one (code == 200) (codes "OK") _ refl
    (one (code == 201) (codes "Created") _ refl
    (one (code == 202) (codes "Accepted") _ refl
    (one (code == 203) (codes "Non Authoritative Information") _ refl
    (one (code == 204) (codes "No Content") _ refl
    (one (code == 205) (codes "Reset Content") _ refl
    (one (code == 206) (codes "Partial Content") _ refl
    (one (code == 207) (codes "Multi-Status") _ refl
    (one (code == 208) (codes "Already Reported") _ refl
    (one (code == 226) (codes "IM Used") _ refl
    (one (code == 300) (codes "Multiple Choices") _ refl
    (one (code == 301) (codes "Moved Permanently") _ refl
    (one (code == 302) (codes "Found") _ refl
    (one (code == 303) (codes "See Other") _ refl
    (one (code == 304) (codes "Not Modified") _ refl
    (one (code == 305) (codes "Use Proxy") _ refl
    (one (code == 307) (codes "Temporary Redirect") _ refl
    (one (code == 308) (codes "Permanent Redirect") _ refl
    (one (code == 400) (codes "Bad Request") _ refl
    (one (code == 401) (codes "Unauthorized") _ refl
    (one (code == 402) (codes "Payment Required") _ refl
    (one (code == 403) (codes "Forbidden") _ refl
    (one (code == 404) (codes "Not Found") _ refl
    (one (code == 405) (codes "Method Not Allowed") _ refl
    (one (code == 406) (codes "Not Acceptable") _ refl
    (one (code == 407) (codes "Proxy Authentication Required") _ refl
    (one (code == 408) (codes "Request Timeout") _ refl
    (one (code == 409) (codes "Conflict") _ refl
    (one (code == 410) (codes "Gone") _ refl
    (one (code == 411) (codes "Length Required") _ refl
    (one (code == 412) (codes "Precondition Failed") _ refl
    (one (code == 413) (codes "Payload Too Large") _ refl
    (one (code == 414) (codes "URI Too Long") _ refl
    (one (code == 415) (codes "Unsupported Media Type") _ refl
    (one (code == 416) (codes "Range Not Satisfiable") _ refl
    (one (code == 417) (codes "Expectation Failed") _ refl
    (one (code == 418) (codes "I'm a teapot") _ refl
    (one (code == 421) (codes "Misdirected Request") _ refl
    (one (code == 422) (codes "Unprocessable Entity") _ refl
    (one (code == 423) (codes "Locked") _ refl
    (one (code == 424) (codes "Failed Dependency") _ refl
    (one (code == 425) (codes "Too Early") _ refl
    (one (code == 426) (codes "Upgrade Required") _ refl
    (one (code == 428) (codes "Precondition Required") _ refl
    (one (code == 429) (codes "Too Many Requests") _ refl
    (one (code == 431) (codes "Request Header Fields Too Large") _ refl
    (one (code == 451) (codes "Unavailable For Legal Reasons") _ refl
    (one (code == 500) (codes "Internal Server Error") _ refl
    (one (code == 501) (codes "Not Implemented") _ refl
    (one (code == 502) (codes "Bad Gateway") _ refl
    (one (code == 503) (codes "Service Unavailable") _ refl
    (one (code == 504) (codes "Gateway Timeout") _ refl
    (one (code == 505) (codes "HTTP Version Not Supported") _ refl
    (one (code == 506) (codes "Variant Also Negotiates") _ refl
    (one (code == 507) (codes "Insufficient Storage") _ refl
    (one (code == 508) (codes "Loop Detected") _ refl
    (one (code == 510) (codes "Not Extended") _ refl
    (one (code == 511) (codes "Network Authentication Required") _ refl
    refl))))))))))))))))))))))))))))))))))))))))))))))))))))))))))))))
