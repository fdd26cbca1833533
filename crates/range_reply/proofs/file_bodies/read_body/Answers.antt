use Rattle.std.proofs.Common.{rules, ◌≡◌, [], inl, inr, Err, None, length, refl, sym, ap, ap₂, subst, map, ◌∙◌}
use Rattle.std.proofs.lemmas.Result.{IfErr-weaker, IfOk-weaker}
use Rattle.host_names.specs.Digests.{digest_of}
use Rattle.range_spec.specs.declared.selection.Choice.{Choice}
use Rattle.range_spec.specs.declared.selection.Choice.TheVariants.{Whole}
use Rattle.range_reply.specs.Bodies.{AreFor, HasBoundary, body_text, stretches, text_in}
use Rattle.range_reply.specs.Holding.{AreHeld, held_in}
use Rattle.range_reply.specs.Sending.{IsNotRead, IsRead, IsSent, SentFile, more_of, sent_holds}
use Rattle.range_reply.specs.Slices.{shown}
use Rattle.range_reply.proofs.HeldInTurn.{no_room, nothing_held}
use Rattle.range_reply.proofs.Joined.{are_pure, first-sent, no_boundary, none-more, pure-first, pure-rest, sent_of}
use Rattle.range_reply.proofs.Sent.{sent-pure}
use Rattle.range_reply.proofs.file_bodies.read_body.Goals as goal

pub returns-in-Ok-clause-fault : goal.returns-in-Ok-clause-fault
returns-in-Ok-clause-fault g c =
    let file = c.args.info.now.value in
    IfErr-weaker c.new.result _ _ (λ why is.
    inl (no_room g.H.Holder.gave g.H.Holder.failed file c.args.holder.now c.hold_for.new.holder why (stretches (length file) c.args.plan.now) (held_in c.in_ok-holds.holds)
    c.in_ok-holds.ensures.held is)) c.new.ensures.fault

pub returns-in-Ok-clause-read : goal.returns-in-Ok-clause-read
returns-in-Ok-clause-read g c =
    let gave = g.H.Holder.gave in
    let file = c.args.info.now.value in
    let plan = c.args.plan.now in
    let boundary = c.in-Ok.boundary in
    let content_type = c.args.content_type.text.now in
    let holds = held_in c.in_ok-holds.holds in
    let held = c.in_ok-holds.ensures.held in
    let has : HasBoundary boundary plan = c.in-Ok.ensures.separated in
    let digest : c.digest.result ≡ digest_of file = search rules in
    let seen : c.as_slice.result.now ≡ holds = search rules in
    let opened : c.deref-in-Ok.result.now ≡ file = search rules in
    let are : AreFor holds file plan = record { same_file = held.same_file; in_order = held.in_order } in
    let R : SentFile → Type 0 = λ body. IsRead gave c.args.holder.now file plan content_type body c.hold_for.new.holder in
    IfOk-weaker c.new.result _ R (λ body is. subst R (sym is) (record {
      holds = holds;
      mid = c.hold_for.new.holder;
      held = held;
      sent = subst (λ d. IsSent (map shown holds) d plan boundary plan) digest
          (subst (λ hs. IsSent (map shown hs) c.digest.result plan boundary plan) seen c.in-Ok.ensures.shown);
      more = [];
      more_held = nothing_held gave file c.hold_for.new.holder (more_of (length file) plan boundary) (none-more (length file) plan boundary has);
      bytes = ap₂ (λ n hs. body_text (text_in boundary) content_type n plan (map shown hs)) (ap length opened) (sym (first-sent holds [] plan boundary has));
      exact = λ pure. (
          let all = are_pure file holds held.same_file (pure-first file holds [] pure) in
          record {
            sent = sent_of file (length file) holds c.as_slice.result.now c.digest.result plan boundary plan seen digest held.same_file held.in_order c.in-Ok.ensures.pure all;
            bytes = ap (λ n. body_text (text_in boundary) content_type n plan (map shown holds)) (ap length opened)
                ∙ sent-pure (text_in boundary) content_type file holds plan are held.lawful all;
          });
    })) c.new.ensures.made

pub returns-in_err-whole-in-Err-clause-fault : goal.returns-in_err-whole-in-Err-clause-fault
returns-in_err-whole-in-Err-clause-fault g c =
    let gave = g.H.Holder.gave in
    let file = c.args.info.now.value in
    let plan = c.args.plan.now in
    let xs = held_in c.in_ok-holds.holds in
    let why = c.in_err-whole-in-Err.field-0.0 in
    let parts = c.in-Err.ensures.several in
    let digest : c.digest.result ≡ digest_of file = search rules in
    let seen : c.as_slice.result.now ≡ xs = search rules in
    let sent = subst (λ d. IsSent (map shown xs) d plan None Whole) digest (subst (λ hs. IsSent (map shown hs) c.digest.result plan None Whole) seen c.in-Err.ensures.shown) in
    let held = subst (λ p. AreHeld gave c.args.holder.now file (stretches (length file) p) xs c.hold_for.new.holder) parts.1 c.in_ok-holds.ensures.held in
    let is : c.from_residual-in_err-whole-in-Err.result ≡ Err why = search rules in
    let fault : IsNotRead gave g.H.Holder.failed c.args.holder.now file plan why c.hold_whole.new.holder =
    inr (parts.0, xs, c.hold_for.new.holder, parts.1, held, no_boundary (map shown xs) (digest_of file) plan Whole parts.0 parts.1 sent, c.in_err-whole-in-Err.ensures.fault) in
    search (rules, fault)

pub returns-in_ok-whole-in-Err-clause-read : goal.returns-in_ok-whole-in-Err-clause-read
returns-in_ok-whole-in-Err-clause-read g c =
    let gave = g.H.Holder.gave in
    let file = c.args.info.now.value in
    let plan = c.args.plan.now in
    let content_type = c.args.content_type.text.now in
    let xs = held_in c.in_ok-holds.holds in
    let held = c.in_ok-holds.ensures.held in
    let ys = held_in c.in_ok-whole-in-Err.whole in
    let rest = c.in_ok-whole-in-Err.ensures.held in
    let parts = c.in-Err.ensures.several in
    let digest : c.digest.result ≡ digest_of file = search rules in
    let seen : c.as_slice.result.now ≡ xs = search rules in
    let are : AreFor ys file Whole = record { same_file = rest.same_file; in_order = rest.in_order } in
    let R : SentFile → Type 0 = λ body. IsRead gave c.args.holder.now file plan content_type body c.hold_whole.new.holder in
    let B : Choice → Type 0 = λ p. body_text (text_in None) content_type (length file) Whole (map shown ys)
    ≡ body_text (text_in None) content_type (length file) Whole (map shown (sent_holds xs ys p None)) in
    IfOk-weaker c.new-in-Err.result _ R (λ body is. subst R (sym is) (record {
      holds = xs;
      mid = c.hold_for.new.holder;
      held = held;
      sent = subst (λ d. IsSent (map shown xs) d plan None Whole) digest (subst (λ hs. IsSent (map shown hs) c.digest.result plan None Whole) seen c.in-Err.ensures.shown);
      more = ys;
      more_held = subst (λ p. AreHeld gave c.hold_for.new.holder file (more_of (length file) p None) ys c.hold_whole.new.holder) (sym parts.1) rest;
      bytes = subst B (sym parts.1) refl;
      exact = λ pure. record {
        sent = sent_of file (length file) xs c.as_slice.result.now c.digest.result plan None Whole seen digest held.same_file held.in_order c.in-Err.ensures.pure
            (are_pure file xs held.same_file (pure-first file xs ys pure));
        bytes = sent-pure (text_in None) content_type file ys Whole are rest.lawful (are_pure file ys rest.same_file (pure-rest file xs ys pure));
      };
    })) c.new-in-Err.ensures.made
