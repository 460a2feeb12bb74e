-- `layout_message::put_static_texts` meets its contract: four texts. Assumes nothing.
use Rattle.text_out.proofs.Pieces.{puts_then}
use Rattle.layout_message.proofs.StaticCounts.{texts-length}
use Rattle.layout_message.proofs.put_static_texts.Goals as goal

pub returns : goal.returns
returns c = record {
  out_after =
      puts_then _ _ _ _ _ c.put_text.ensures.out_after
      (puts_then _ _ _ _ _ c.put_text-2.ensures.out_after (puts_then _ _ _ _ _ c.put_text-3.ensures.out_after c.put_text-4.ensures.out_after));
  t_len = texts-length c.args.t c.put_text.ensures.bytes_len c.put_text-2.ensures.bytes_len c.put_text-3.ensures.bytes_len c.put_text-4.ensures.bytes_len;
}
