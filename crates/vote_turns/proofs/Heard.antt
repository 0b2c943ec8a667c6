-- What recording a message does to the ballots of its hearer. Assumes nothing.
use Rattle.std.proofs.Common.{◌≡◌, ℕ, zero, suc, ◌<◌, ◌≤◌, Bool, true, false, ◌≢◌, List, set, get_or, Some, None, Option, refl, inr, arith, lit<}
use Rattle.std.proofs.lemmas.Bool.{leb-true, and_parts}
use Rattle.basis.specs.Halls.{largest}
use Rattle.coins.specs.Coins.{Keeps as CoinKeeps, left_by, take_after}
use Rattle.messages.specs.declared.message.BitSet.{BitSet}
use Rattle.messages.specs.declared.message.BitSet.TheVariants.{Zero, One, Both}
use Rattle.messages.specs.declared.message.Message.{Message}
use Rattle.messages.specs.declared.message.Message.TheVariants.{Sheet, Bit, Set, Share}
use Rattle.messages.specs.declared.message.Vote.{Vote as VoteKind}
use Rattle.messages.specs.declared.message.Vote.TheVariants.{First, Second}
use Rattle.messages.specs.Reading.{Lawful, placed}
use Rattle.messages.specs.Tags.{vote_tag, bits_number, uses, is_set_tag, basic_tags}
use Rattle.messages.specs.declared.tags.VoteTags.{VoteTags}
use Rattle.phases.specs.Steps.{hears}
use Rattle.rules.specs.Rounds.{Vote, cleared}
use Rattle.rules.specs.Laws.{Audible, Laws}
use Rattle.slots.specs.Steps.{noted}
use Rattle.ballots.specs.States.{BallotState, place}
use Rattle.ballots.specs.Listed.{reopened}
use Rattle.outcomes.specs.Holdings.{Setting, Holding, syntax_of, is_delivered, ballot_at, state_of, with_state, with_coin}
use Rattle.outcomes.specs.Hearing.{bit_vote, set_vote, share_from, vote_noted, message_noted}
use Rattle.vote_turns.proofs.Known.{VotesWell}
use Rattle.vote_turns.proofs.Parts.{share_part, heard_opening, heard_later}
use Rattle.vote_turns.proofs.Moved.{Moved, moved_none, own_small, small, state_becomes, ready_for, piece_moved}
use Rattle.vote_turns.proofs.Delivering.{flags_moved}

-- a vote for one bit, and a vote for a set
bit_audible : (tags : VoteTags) (n own j : ℕ) (vote : VoteKind) (b : Bool) → j < n → (j ≢ own) → Audible tags n own (bit_vote j (vote_tag vote) b)
bit_audible tags n own j First true lj ne = record { low = lj; other = ne; used = refl; some = lit< tt; few = lit< tt; one = λ _. lit< tt }
bit_audible tags n own j First false lj ne = record { low = lj; other = ne; used = refl; some = lit< tt; few = lit< tt; one = λ _. lit< tt }
bit_audible tags n own j Second true lj ne = record { low = lj; other = ne; used = refl; some = lit< tt; few = lit< tt; one = λ _. lit< tt }
bit_audible tags n own j Second false lj ne = record { low = lj; other = ne; used = refl; some = lit< tt; few = lit< tt; one = λ _. lit< tt }

set_some : (v : BitSet) → (0 < bits_number v) × (bits_number v < 4)
set_some Zero = (lit< tt, lit< tt)
set_some One = (lit< tt, lit< tt)
set_some Both = (lit< tt, lit< tt)

set_audible : (tags : VoteTags) (n own j tag : ℕ) (v : BitSet) → j < n → (j ≢ own) → is_set_tag tag ≡ true → uses tags tag ≡ true → Audible tags n own (set_vote j tag (bits_number v))
set_audible tags n own j tag v lj ne high used = record {
  low = lj;
  other = ne;
  used = used;
  some = (set_some v).0;
  few = (set_some v).1;
  one = λ lt. absurd (let z = leb-true 34 tag (and_parts _ _ high).0 in omega arith);
}

module _ {R C : Type 0} (g : Setting R C) (n own : ℕ) (ok : ℕ → ℕ → Vote → Type 0) (okc : ℕ → ℕ → ℕ → ℕ → Type 0) (j : ℕ) where
  -- the vote or share of a message may be heard of its sender
  abbrev pub Allows : Message (List ℕ) → Type 0
  Allows (Sheet ph k s) = Unit {0}
  Allows (Bit vote k r b) = ok k r (bit_vote j (vote_tag vote) b)
  Allows (Set tag k r v) = ok k r (set_vote j tag (bits_number v))
  Allows (Share k r x) = okc k r j x

  module _ (laws : Laws g.rule n own) (keeps : CoinKeeps g.coins) (most : n ≤ largest) (own_low : own < n) (lj : j < n) (ne : j ≢ own) (h : Holding R C) (w : VotesWell g n own h) where
    opening_vote_moved : (k : ℕ) → k < n → (v : Vote) → Audible basic_tags n own v → ok k 0 v → Moved g n own ok okc h (vote_noted g n own j k 0 v h)
    opening_vote_moved k lk v au q =
        let t = reopened (hears v (ballot_at k h).opening) (state_of k h) in
        piece_moved g n own ok okc laws keeps most own_low k lk h (with_state k t h) t w
        (heard_opening g.rule g.coins n own k laws keeps (own_small g n own ok okc laws keeps most own_low) (small g n own ok okc laws keeps most own_low k lk) (ok k) okc (is_delivered k h) (state_of k h)
        (ready_for g n own ok okc laws keeps most own_low k lk h w) v au q)
        (state_becomes g n own ok okc laws keeps most own_low k lk h t w)

    later_vote_moved : (k r : ℕ) → k < n → r < 15 → (v : Vote) → Audible g.rule.tags n own v → ok k (suc r) v → Moved g n own ok okc h (vote_noted g n own j k (suc r) v h)
    later_vote_moved k r lk lr v au q =
        let ms = set h.rounds (place k r) (g.rule.hear n own v (get_or h.rounds (place k r) cleared)) in
        let t : BallotState C = record { ballot = ballot_at k h; rounds = ms; coin = h.coin } in
        piece_moved g n own ok okc laws keeps most own_low k lk h (vote_noted g n own j k (suc r) v h) t w
        (heard_later g.rule g.coins n own k laws keeps (own_small g n own ok okc laws keeps most own_low) (small g n own ok okc laws keeps most own_low k lk) (ok k) okc (is_delivered k h) (state_of k h)
        (ready_for g n own ok okc laws keeps most own_low k lk h w) r lr v au q)
        (record { slots = refl; here = refl; others = λ l nl. refl; size = refl; rounds = refl; coin = refl })

    share_moved : (k r x : ℕ) → k < n → 1 ≤ r → r ≤ 15 → x ≤ 250 → g.coins.uses ≡ true → okc k r j x → Moved g n own ok okc h (with_coin (take_after g.coins h.coin (share_from j k r x)) h)
    share_moved k r x lk lo hi few used q = go (g.coins.taken_of h.coin k r j) refl
      where
        go : (o : Option ℕ) → g.coins.taken_of h.coin k r j ≡ o → Moved g n own ok okc h (with_coin (left_by o (g.coins.taken h.coin (share_from j k r x)) h.coin) h)
        go (Some v) e = moved_none g n own ok okc h w
        go None e =
            let c = g.coins.taken h.coin (share_from j k r x) in
            let t : BallotState C = record { ballot = ballot_at k h; rounds = h.rounds; coin = c } in
            piece_moved g n own ok okc laws keeps most own_low k lk h (with_coin c h) t w
            (share_part g.rule g.coins n own k laws keeps (own_small g n own ok okc laws keeps most own_low) (small g n own ok okc laws keeps most own_low k lk) (ok k) okc (is_delivered k h) (state_of k h)
            (ready_for g n own ok okc laws keeps most own_low k lk h w) r j x
            (record {
              used = used;
              sound = w.coin;
              lawful = record { tossed = record { ballot_below = omega (arith, most, lk); round_from = lo; round_to = hi }; sender_below = omega (arith, most, lj); value_to = few };
              new = e;
            }) (inr q))
            (record { slots = refl; here = refl; others = λ l nl. refl; size = refl; rounds = refl; coin = refl })

    pub message_moved : (m : Message (List ℕ)) → Lawful (syntax_of g n) m → Allows m → Moved g n own ok okc h (message_noted g n own j (placed m) h)
    message_moved (Sheet ph k s) l q = flags_moved g n own ok okc laws h (noted g.rows n own k ph j h.slots s) w (λ i e. e)
    message_moved (Bit vote k zero b) l q = opening_vote_moved k l.0 (bit_vote j (vote_tag vote) b) (bit_audible basic_tags n own j vote b lj ne) q
    message_moved (Bit vote k (suc r) b) l q = later_vote_moved k r l.0 (omega (arith, l.1)) (bit_vote j (vote_tag vote) b) (bit_audible g.rule.tags n own j vote b lj ne) q
    message_moved (Set tag k zero v) l q = absurd (omega (arith, l.1))
    message_moved (Set tag k (suc r) v) l q = later_vote_moved k r l.0 (omega (arith, l.2)) (set_vote j tag (bits_number v)) (set_audible g.rule.tags n own j tag v lj ne l.3 l.4) q
    message_moved (Share k r x) l q = share_moved k r x l.0 l.1 l.2 l.3 l.4 q
