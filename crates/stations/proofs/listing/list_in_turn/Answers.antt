use Rattle.std.proofs.Common.{rules, ◌≤◌, ◌∙◌, ap, length, sym, take, arith, vec_capacity, vec_len}
use Rattle.std.proofs.Math.Seq.{take-append_seam}
use Rattle.listings.specs.Texts.{listing_text}
use Rattle.stations.specs.OfSession.{at_session, of_session}
use Rattle.stations.proofs.Unkept.{unkept}
use Rattle.stations.proofs.listing.list_in_turn.Goals as goal

pub returns : goal.returns
returns g c =
    let more : vec_capacity c.args.out.now ≤ vec_capacity c.drop_added.new.out = search rules in
    let listed = c.in_default.ensures.listed in
    record {
      listed = tt;
      unlisted = unkept (of_session g.row.J.Denot g.J.Centre.base g.K.Began.may_order) (at_session c.args.session.now) c.args.listing.now (at_session c.read.new.session)
          c.args.out.now.items c.read.new.out.items (vec_len c.args.out.now) (vec_capacity c.args.out.now) listed c.args.out.now.ok.0
          (omega (arith, c.may_keep.ensures c.if-may_keep.false, c.capacity-room.ensures, c.read.new.out.ok.0)) (sym c.is_line.ensures ∙ c.if-is_line.false);
      kept = c.drop_added.ensures.items ∙ ap (λ n. take n c.read.new.out.items) (c.len-size.ensures ∙ c.args.out.now.ok.0)
          ∙ ap (λ l. take (length c.args.out.now.items) l) listed.2 ∙ take-append_seam c.args.out.now.items (listing_text listed.0 c.args.listing.now);
      capacity = more;
      session = c.read.ensures.session;
    }
