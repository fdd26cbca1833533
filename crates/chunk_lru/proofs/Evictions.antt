-- What goes until the rest is within the limit.
use Rattle.std.proofs.Common.{◌≡◌, ℕ, zero, suc, ◌+◌, ◌-◌, ◌/◌, ◌<◌, ◌≤◌, Bool, true, false, List, [], ◌∷◌, length, refl, sym, ap, subst, ◌∙◌, arith, nat_lt}
use Rattle.std.specs.Prelude.{if◌then◌else◌}
use Rattle.std.proofs.lemmas.Bool.{le-ltb, lt-ltb, ltb-false, ltb-true}
use Rattle.std.proofs.lemmas.List.{length-take}
use Rattle.chunk_lru.specs.declared.caches.Which.{Which}
use Rattle.chunk_lru.specs.declared.caches.Which.TheVariants.{Main, Hot}
use Rattle.chunk_lru.specs.Caches.{Cache, together}
use Rattle.chunk_lru.specs.Recent.{Recent, recent, size_of, without_last}
use Rattle.chunk_lru.specs.Rules.{chunks_in, evicted, shrunk, total, victim, with_chunks, with_one_gone}
use Rattle.std.proofs.lemmas.List.Sums.{sum_by-take-le}

-- the victim's last chunk goes
one_gone_of : (cache : Cache) (which : Which) → victim cache ≡ which → with_one_gone cache ≡ with_chunks which (without_last (chunks_in which cache)) cache
one_gone_of cache which is = ap (λ w. with_chunks w (without_last (chunks_in w cache)) cache) is

pub one_gone-hot : (cache : Cache) → size_of cache.main / 8 < size_of cache.hot → with_one_gone cache ≡ record cache { hot = without_last cache.hot }
one_gone-hot cache over = one_gone_of cache Hot (ap (λ b. if b then Hot else Main) (lt-ltb (size_of cache.main / 8) (size_of cache.hot) over))

pub one_gone-main : (cache : Cache) → size_of cache.hot ≤ size_of cache.main / 8 → with_one_gone cache ≡ record cache { main = without_last cache.main }
one_gone-main cache within = one_gone_of cache Main (ap (λ b. if b then Hot else Main) (le-ltb (size_of cache.main / 8) (size_of cache.hot) within))

some_counted : (chunks : List (List ℕ)) → 0 < size_of chunks → 0 < length chunks
some_counted [] some = some
some_counted (chunk ∷ chunks) some = omega (arith)

pub none_counted : (chunks : List (List ℕ)) → length chunks ≡ 0 → size_of chunks ≡ 0
none_counted [] none = refl
none_counted (chunk ∷ chunks) none = absurd (omega (arith, none))

shorter : (chunks : List (List ℕ)) → 0 < size_of chunks → length (without_last chunks) + 1 ≡ length chunks
shorter chunks some = omega (arith, some_counted chunks some, length-take (length chunks - 1) chunks)

-- how many chunks there are
abbrev pub count : Cache → ℕ
count cache = length cache.main + length cache.hot

count-fewer_by : (cache : Cache) (b : Bool) → nat_lt (size_of cache.main / 8) (size_of cache.hot) ≡ b → cache.limit < total cache → count (with_one_gone cache) + 1 ≡ count cache
count-fewer_by cache true hot over =
    let more = ltb-true _ _ hot in
    ap (λ (c : Cache). count c + 1) (one_gone-hot cache more) ∙ omega (arith, shorter cache.hot (omega (arith, more)))
count-fewer_by cache false main over =
    let less = ltb-false _ _ main in
    ap (λ (c : Cache). count c + 1) (one_gone-main cache less) ∙ omega (arith, shorter cache.main (omega (arith, less, over)))

pub count-fewer : (cache : Cache) → cache.limit < total cache → count (with_one_gone cache) + 1 ≡ count cache
count-fewer cache over = count-fewer_by cache (nat_lt (size_of cache.main / 8) (size_of cache.hot)) refl over

pub shrunk-over : (n : ℕ) (cache : Cache) → cache.limit < total cache → shrunk (suc n) cache ≡ shrunk n (with_one_gone cache)
shrunk-over n cache over = ap (λ b. if b then shrunk n (with_one_gone cache) else cache) (lt-ltb cache.limit (total cache) over)

-- while it is over the limit, one goes
pub evicted-over : (cache : Cache) → cache.limit < total cache → evicted cache ≡ evicted (with_one_gone cache)
evicted-over cache over =
    let more : count cache ≡ suc (count (with_one_gone cache)) = omega (arith, count-fewer cache over) in
    ap (λ n. shrunk n cache) more ∙ shrunk-over (count (with_one_gone cache)) cache over

pub shrunk-within : (n : ℕ) (cache : Cache) → total cache ≤ cache.limit → shrunk n cache ≡ cache
shrunk-within zero cache within = refl
shrunk-within (suc n) cache within = ap (λ b. if b then shrunk n (with_one_gone cache) else cache) (le-ltb cache.limit (total cache) within)

pub evicted-within : (cache : Cache) → total cache ≤ cache.limit → evicted cache ≡ cache
evicted-within cache within = shrunk-within (count cache) cache within

limit-gone_by : (cache : Cache) (b : Bool) → (with_chunks (if b then Hot else Main) (without_last (chunks_in (if b then Hot else Main) cache)) cache).limit ≡ cache.limit
limit-gone_by cache true = refl
limit-gone_by cache false = refl

pub limit-gone : (cache : Cache) → (with_one_gone cache).limit ≡ cache.limit
limit-gone cache = limit-gone_by cache (nat_lt (size_of cache.main / 8) (size_of cache.hot))

less_counted : (chunks : List (List ℕ)) → size_of (without_last chunks) ≤ size_of chunks
less_counted chunks = sum_by-take-le (λ chunk. 40 + length chunk) chunks (length chunks - 1)

-- the last of hot goes, and that of main
pub record Goes (limit : ℕ) (main hot before_main before_hot : Recent) : Type 0 where
  pub rest : evicted (together limit main hot) ≡ evicted (together limit before_main before_hot)
  pub main_room : main.room ≡ before_main.room
  pub hot_room : hot.room ≡ before_hot.room
  pub counted : total (together limit main hot) ≤ total (together limit before_main before_hot)
  pub fewer : length main.chunks + length hot.chunks < length before_main.chunks + length before_hot.chunks

pub hot_goes : (limit : ℕ) (main hot after : Recent) → limit < size_of main.chunks + size_of hot.chunks → size_of main.chunks / 8 < size_of hot.chunks → after ≡ recent (without_last hot.chunks) hot.room → Goes limit main after main hot
hot_goes limit main hot after over more is =
    let cache : Cache = together limit main hot in
    let gone : with_one_gone cache ≡ together limit main (recent (without_last hot.chunks) hot.room) = one_gone-hot cache more in
    subst (λ (r : Recent). Goes limit main r main hot) (sym is) (record {
      rest = ap evicted (sym gone) ∙ sym (evicted-over cache over);
      main_room = refl;
      hot_room = refl;
      counted = omega (arith, less_counted hot.chunks);
      fewer = omega (arith, shorter hot.chunks (omega (arith, more)));
    })

pub main_goes : (limit : ℕ) (main hot after : Recent) → limit < size_of main.chunks + size_of hot.chunks → size_of hot.chunks ≤ size_of main.chunks / 8 → after ≡ recent (without_last main.chunks) main.room → Goes limit after hot main hot
main_goes limit main hot after over less is =
    let cache : Cache = together limit main hot in
    let gone : with_one_gone cache ≡ together limit (recent (without_last main.chunks) main.room) hot = one_gone-main cache less in
    subst (λ (r : Recent). Goes limit r hot main hot) (sym is) (record {
      rest = ap evicted (sym gone) ∙ sym (evicted-over cache over);
      main_room = refl;
      hot_room = refl;
      counted = omega (arith, less_counted main.chunks);
      fewer = omega (arith, shorter main.chunks (omega (arith, less, over)));
    })
