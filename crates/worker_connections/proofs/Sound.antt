-- What keeps the places of a worker sound.
use Rattle.std.proofs.Common.{◌≡◌, ◌+◌, ◌<◌, ◌∷◌, ◌&&◌, [], ℕ, zero, suc, Bool, true, false, cond, not, if◌then◌else◌, List, Option, None, Some, IfSome, arith, length, refl, subst, slice_set}
use Rattle.std.proofs.lemmas.List.Sums.{sum_by-set}
use Rattle.worker_connections.specs.Clients.{is_live}
use Rattle.worker_connections.specs.Places.{CameBefore, IsSound, count_live, is_live_in, lost, place_at}
use Rattle.worker_connections.specs.declared.clients.Client.{Client}

-- a place with something is one of them
pub below : (places : List (Option Client)) (at : ℕ) (old : Client) → place_at places at ≡ Some old → at < length places
below [] at old h = cc
below (p ∷ ps) zero old h = omega arith
below (p ∷ ps) (suc at) old h = omega (arith, below ps at old h)

numbered_set : (came : ℕ) (ps : List (Option Client)) (at : ℕ) (new : Option Client) → ((k : ℕ) → CameBefore came (place_at ps k)) → CameBefore came new
    → (k : ℕ) → CameBefore came (place_at (slice_set ps at new) k)
numbered_set came [] at new h q k = h k
numbered_set came (p ∷ ps) zero new h q zero = q
numbered_set came (p ∷ ps) zero new h q (suc k) = h (suc k)
numbered_set came (p ∷ ps) (suc at) new h q zero = h zero
numbered_set came (p ∷ ps) (suc at) new h q (suc k) = numbered_set came ps at new (λ j. h (suc j)) q k

-- of two tests, of which the first passes where the second does
lost_one : (old new : Bool) (after before : ℕ) → (new ≡ true → old ≡ true) → after + cond old 1 0 ≡ before + cond new 1 0
    → (if old && not new then 1 else 0) + after ≡ before
lost_one true true after before h e = omega (arith, e)
lost_one true false after before h e = omega (arith, e)
lost_one false true after before h e = let no : false ≡ true = h refl in cc
lost_one false false after before h e = omega (arith, e)

came_before : (came : ℕ) (place : Option Client) (old : Client) (new : Option Client) → CameBefore came place → place ≡ Some old
    → IfSome new (λ c. c.number ≡ old.number) → CameBefore came new
came_before came place old None h is same = tt
came_before came place old (Some c) h is same =
    let there : old.number < came = subst (CameBefore came) is h in omega (arith, there, same)

-- one that was there becomes another with its number, or none
pub sound_set : (ps : List (Option Client)) (came gone at : ℕ) (old : Client) (new : Option Client) → IsSound ps came gone → place_at ps at ≡ Some old
    → IfSome new (λ c. c.number ≡ old.number) → (is_live_in new ≡ true → is_live old ≡ true)
    → IsSound (slice_set ps at new) came (gone + lost old new)
sound_set ps came gone at old new sound is same live =
    let counts : count_live (slice_set ps at new) + cond (is_live_in (place_at ps at)) 1 0 ≡ count_live ps + cond (is_live_in new) 1 0
    = sum_by-set (λ p. cond (is_live_in p) 1 0) ps at new None (below ps at old is) in
    let there : count_live (slice_set ps at new) + cond (is_live old) 1 0 ≡ count_live ps + cond (is_live_in new) 1 0
    = subst (λ p. count_live (slice_set ps at new) + cond (is_live_in p) 1 0 ≡ count_live ps + cond (is_live_in new) 1 0) is counts in
    let lost_then : lost old new + count_live (slice_set ps at new) ≡ count_live ps = lost_one (is_live old) (is_live_in new) _ _ live there in
    record {
      fits = sound.fits;
      counted = omega (arith, sound.counted, lost_then);
      numbered = numbered_set came ps at new sound.numbered (came_before came (place_at ps at) old new (sound.numbered at) is same);
    }
