mod CountLaws
mod EdgeLaws
